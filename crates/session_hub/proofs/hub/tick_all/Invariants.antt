use Rattle.std.proofs.Common.{◌≡◌, ℕ}
use Rattle.std.specs.Prelude.{if◌then◌else◌, nat_lt, vec_len, option_map}
use Rattle.session_hub.specs.Seats.{ticked}
use Rattle.session_hub.specs.Hubs.{seat_at}
use Rattle.session_hub.proofs.hub.tick_all.Given as goal

abbrev pub invariant-loop-token : goal.invariant-loop-token
invariant-loop-token g l = record {
  seats : (t : ℕ) → seat_at t l.seats.items ≡ (if nat_lt t l.token then option_map (ticked l.limits l.now) (seat_at t l.fn.seats.items) else seat_at t l.fn.seats.items);
  len : vec_len l.seats ≡ vec_len l.fn.seats;
}
