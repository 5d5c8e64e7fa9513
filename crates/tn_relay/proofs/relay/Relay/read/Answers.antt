use Rattle.tn_relay.proofs.Ways.{read_faithful, same_written, reads_host, reads_terminal}
use Rattle.tn_relay.proofs.relay.Relay.read.Goals as goal

pub invariant_of-self : goal.invariant_of-self
invariant_of-self g c =
    (read_faithful _ _ _ _ (c.fill.ensures.reads _ _ _) c.self.invariant.0, same_written _ c.self.inside.to_terminal _ _ _ _ _ _ _ c.fill.ensures.line.0 c.fill.ensures.line.1 c.fill.ensures.line.2 c.self.invariant.1)

pub invariant_of-self-in-Host : goal.invariant_of-self-in-Host
invariant_of-self-in-Host g c =
    (same_written _ c.self.inside.to_host _ _ _ _ _ _ _ c.fill-in-Host.ensures.line.0 c.fill-in-Host.ensures.line.1 c.fill-in-Host.ensures.line.2 c.self.invariant.0, read_faithful _ _ _ _ (c.fill-in-Host.ensures.reads _ _ _) c.self.invariant.1)

pub returns-in-Terminal-clause-reads : goal.returns-in-Terminal-clause-reads
returns-in-Terminal-clause-reads g c = reads_terminal _ _ _ _ _ _ c.in-Terminal.is c.self.view_is (c.fill.ensures.reads _ _ _)

pub returns-in-Host-clause-reads : goal.returns-in-Host-clause-reads
returns-in-Host-clause-reads g c = reads_host _ _ _ _ _ _ c.in-Host.is c.self.view_is (c.fill-in-Host.ensures.reads _ _ _)
