use Rattle.tn_relay.proofs.Ways.{end_faithful, same_read}
use Rattle.tn_relay.proofs.relay.Relay.tell_end.Goals as goal

pub invariant_of-self : goal.invariant_of-self
invariant_of-self g c =
    (same_read _ _ c.self.inside.to_host _ _ _ _ _ c.hand_end.ensures.line.0 c.hand_end.ensures.line.1 c.self.invariant.0, end_faithful _ _ _ (c.hand_end.ensures.tells _ _) c.self.invariant.1)

pub invariant_of-self-in-Host : goal.invariant_of-self-in-Host
invariant_of-self-in-Host g c =
    (end_faithful _ _ _ (c.hand_end-in-Host.ensures.tells _ _) c.self.invariant.0, same_read _ _ c.self.inside.to_terminal _ _ _ _ _ c.hand_end-in-Host.ensures.line.0 c.hand_end-in-Host.ensures.line.1 c.self.invariant.1)
