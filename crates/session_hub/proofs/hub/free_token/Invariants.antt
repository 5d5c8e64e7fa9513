use Rattle.std.proofs.Common.{◌≡◌}
use Rattle.session_hub.proofs.hub.free_token.Given as goal

abbrev pub invariant-loop-seat : goal.invariant-loop-seat
invariant-loop-seat g l = l.token ≡ l.seat-index
