use Rattle.std.proofs.Common.{◌≡◌, ◌+◌, ◌-◌, ℕ}
use Rattle.std.specs.Prelude.{vec_len}
use Rattle.session_hub.specs.Hubs.{seat_at}
use Rattle.session_hub.proofs.hub.put.Given as goal

abbrev pub invariant-loop-seats : goal.invariant-loop-seats
invariant-loop-seats g l = (t : ℕ) → seat_at t l.seats.items ≡ seat_at t l.fn.seats.items

abbrev pub decreases-loop-seats : goal.decreases-loop-seats
decreases-loop-seats g l = l.token + 1 - vec_len l.seats
