-- Bytes that a seat took.
use Rattle.std.proofs.Common.{◌≡◌, ℕ, ◌+◌, ◌-◌, ◌≤◌, List, ◌++◌, length, drop, refl, sym, ◌∙◌, ap, subst, arith, length-append, length-drop}
use Rattle.std.proofs.lemmas.List.{drop-append-le}
use Rattle.session_hub.specs.declared.session.Came.{Came}
use Rattle.session_hub.specs.declared.seat.Limits.{Limits}
use Rattle.session_hub.specs.declared.seat.Stand.{Stand}
use Rattle.session_hub.specs.Seats.{Seated, IsHeard, stand_after}
use Rattle.session_hub.specs.Hubs.{Taking}

waits_now : (items given : List ℕ) (gone : ℕ) → gone ≤ length items → length (items ++ given) - gone ≡ length (drop gone items ++ given)
waits_now items given gone few = rw (length-append items given, length-append (drop gone items) given, length-drop gone items) (omega (arith, few))

pub seat_heard : {S : Type 0} (takes : Taking S) (limits : Limits) (now number since left gone less waits : ℕ) (bytes items more given : List ℕ) (session after : S) (stand later : Stand) (came : Came)
    → takes session bytes came given after → more ≡ items ++ given → gone ≤ length items → less ≡ left - length bytes → waits ≡ length more - gone
    → later ≡ stand_after limits left (length bytes) waits came
    → IsHeard takes limits now bytes
    (record { session = session; number = number; since = since; left = left; due = drop gone items; stand = stand })
    (record { session = after; number = number; since = now; left = less; due = drop gone more; stand = later })
seat_heard takes limits now number since left gone less waits bytes items more given session after stand later came taken adds few fewer waiting is = record {
  came = came;
  given = given;
  after = after;
  taken = taken;
  is = rw (is, fewer, waiting, adds, drop-append-le gone items given few, waits_now items given gone few) refl;
}
