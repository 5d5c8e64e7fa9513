-- Seats by token: one changes, and the others stay.
use Rattle.std.proofs.Common.{◌≡◌, ℕ, suc, zero, ◌+◌, ◌<◌, ◌≤◌, Bool, true, false, List, [], ◌∷◌, ◌++◌, length, get_or, None, Some, Option, refl, sym, ap, arith, eqb, subst, ◌∙◌}
use Rattle.std.specs.Prelude.{if◌then◌else◌, nat_lt, ◌==◌}
use Rattle.std.proofs.lemmas.Bool.{eqb-true, eqb-false}
use Rattle.session_hub.specs.declared.seat.Limits.{Limits}
use Rattle.session_hub.specs.Seats.{Seated, IsHeard, HearsIn}
use Rattle.session_hub.specs.Hubs.{Taking, Own, Opens, Hears, Sends, Closes, Breaks, Ticks, Leaves, Happens, LedAlone, Happened, At, Passed, seat_at, own_of, HappensIf, Steps, Led, with_own, owns_of, IsIsolated, IsDetermined, IsDeterminedAlone}

-- an event of one token, where the others stay
step_if : {S : Type 0} (takes : Taking S) (limits : Limits) (token t : ℕ) (own : Own S) (old new : List (Option (Seated S)))
    → Happens takes limits own (seat_at token old) (seat_at token new) → ((u : ℕ) → ¬ (u ≡ token) → seat_at u new ≡ seat_at u old)
    → (b : Bool) → (token == t) ≡ b → HappensIf takes limits (if b then Some own else None) (seat_at t old) (seat_at t new)
step_if takes limits token t own old new here others true is = subst (λ u. Happens takes limits own (seat_at u old) (seat_at u new)) (eqb-true token t is) here
step_if takes limits token t own old new here others false is = others t (λ same. eqb-false token t is (sym same))

pub steps_at : {S : Type 0} (takes : Taking S) (limits : Limits) (token : ℕ) (own : Own S) (old new : List (Option (Seated S)))
    → Happens takes limits own (seat_at token old) (seat_at token new) → ((u : ℕ) → ¬ (u ≡ token) → seat_at u new ≡ seat_at u old)
    → Steps takes limits (At token own) old new
steps_at takes limits token own old new here others t = step_if takes limits token t own old new here others (token == t) refl

-- ---- isolation

led_if : {S : Type 0} (takes : Taking S) (limits : Limits) (own : Option (Own S)) (owns : List (Own S)) (old mid new : Option (Seated S))
    → HappensIf takes limits own old mid → LedAlone takes limits owns mid new → LedAlone takes limits (with_own own owns) old new
led_if takes limits None owns old mid new same led = subst (λ s. LedAlone takes limits owns s new) same led
led_if takes limits (Some own) owns old mid new happens led = (mid, happens, led)

pub isolated : {S : Type 0} (takes : Taking S) → IsIsolated takes
isolated takes limits [] old new same t = ap (seat_at t) same
isolated takes limits (event ∷ events) old new (mid, step, led) t =
    led_if takes limits (own_of t event) (owns_of t events) (seat_at t old) (seat_at t mid) (seat_at t new) (step t) (isolated takes limits events mid new led t)
