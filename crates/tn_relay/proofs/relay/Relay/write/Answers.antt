use Rattle.tn_relay.proofs.Ways.{write_faithful, same_read, writes_host, writes_terminal}
use Rattle.tn_relay.proofs.relay.Relay.write.Goals as goal

pub invariant_of-self : goal.invariant_of-self
invariant_of-self g c =
    (same_read _ _ c.self.inside.to_host _ _ _ _ _ c.drain.ensures.line.0 c.drain.ensures.line.1 c.self.invariant.0, write_faithful _ _ _ (c.drain.ensures.writes _ _) c.self.invariant.1)

pub invariant_of-self-in-Host : goal.invariant_of-self-in-Host
invariant_of-self-in-Host g c =
    (write_faithful _ _ _ (c.drain-in-Host.ensures.writes _ _) c.self.invariant.0, same_read _ _ c.self.inside.to_terminal _ _ _ _ _ c.drain-in-Host.ensures.line.0 c.drain-in-Host.ensures.line.1 c.self.invariant.1)

pub returns-in-Terminal-clause-writes : goal.returns-in-Terminal-clause-writes
returns-in-Terminal-clause-writes g c = writes_terminal _ _ _ _ _ c.in-Terminal.is c.self.view_is (c.drain.ensures.writes _ _)

pub returns-in-Host-clause-writes : goal.returns-in-Host-clause-writes
returns-in-Host-clause-writes g c = writes_host _ _ _ _ _ c.in-Host.is c.self.view_is (c.drain-in-Host.ensures.writes _ _)
