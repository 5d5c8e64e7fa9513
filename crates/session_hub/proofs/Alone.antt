-- A terminal's own events determine its seat, where its session's answers hang on its bytes alone.
use Rattle.std.proofs.Common.{◌≡◌, ℕ, List, [], ◌∷◌, ◌++◌, length, None, Some, Option, refl, sym, ap, ◌∙◌, subst}
use Rattle.session_hub.specs.declared.session.Came.{Came}
use Rattle.session_hub.specs.declared.seat.Limits.{Limits}
use Rattle.session_hub.specs.declared.seat.Stand.{Stand}
use Rattle.session_hub.specs.declared.seat.Stand.TheVariants.{Goes, Drains, Ended}
use Rattle.session_hub.specs.Seats.{Seated, IsHeard, HearsIn, stand_after}
use Rattle.session_hub.specs.Hubs.{Taking, Own, Opens, Hears, Sends, Closes, Breaks, Ticks, Leaves, Happens, HearsAt, LedAlone, IsDetermined, IsDeterminedAlone}

module _ {S : Type 0} (takes : Taking S) (determined : IsDetermined takes) where
  same_heard : (limits : Limits) (now : ℕ) (bytes : List ℕ) (old new other : Seated S) → IsHeard takes limits now bytes old new → IsHeard takes limits now bytes old other → new ≡ other
  same_heard limits now bytes old new other one two =
      let same = determined old.session bytes one.came two.came one.given two.given one.after two.after one.taken two.taken in
      one.is ∙ (rw (same.0, same.1, same.2) refl ∙ sym two.is)

  same_in : (limits : Limits) (now : ℕ) (bytes : List ℕ) (stand : Stand) (old new other : Seated S) → HearsIn takes limits now bytes stand old new → HearsIn takes limits now bytes stand old other → new ≡ other
  same_in limits now bytes Goes old new other one two = same_heard limits now bytes old new other one two
  same_in limits now bytes Drains old new other one two = one ∙ sym two
  same_in limits now bytes (Ended end) old new other one two = one ∙ sym two

  same_at : (limits : Limits) (now : ℕ) (bytes : List ℕ) (old new other : Option (Seated S)) → HearsAt takes limits now bytes old new → HearsAt takes limits now bytes old other → new ≡ other
  same_at limits now bytes None new other one two = one ∙ sym two
  same_at limits now bytes (Some seat) new other (next, one, is) (last, two, was) = is ∙ (ap Some (same_in limits now bytes seat.stand seat next last one two) ∙ sym was)

  same_event : (limits : Limits) (own : Own S) (old new other : Option (Seated S)) → Happens takes limits own old new → Happens takes limits own old other → new ≡ other
  same_event limits (Opens number now session opening) old new other one two = one ∙ sym two
  same_event limits (Hears now bytes) old new other one two = same_at limits now bytes old new other one two
  same_event limits (Sends count) old new other one two = one ∙ sym two
  same_event limits Closes old new other one two = one ∙ sym two
  same_event limits Breaks old new other one two = one ∙ sym two
  same_event limits (Ticks now) old new other one two = one ∙ sym two
  same_event limits Leaves old new other one two = one ∙ sym two

  led_same : (limits : Limits) (owns : List (Own S)) (old new other : Option (Seated S)) → LedAlone takes limits owns old new → LedAlone takes limits owns old other → new ≡ other
  led_same limits [] old new other one two = one ∙ sym two
  led_same limits (own ∷ owns) old new other (mid, one, on) (between, two, then_on) =
      led_same limits owns between new other (subst (λ s. LedAlone takes limits owns s new) (same_event limits own old mid between one two) on) then_on

pub determined_alone : {S : Type 0} (takes : Taking S) → IsDeterminedAlone takes
determined_alone takes determined limits owns old new other one two = led_same takes determined limits owns old new other one two
