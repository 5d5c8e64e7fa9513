-- Touched fields are bound, each to its entry, and no entry comes twice.
use Rattle.std.proofs.Common.{◌≡◌, ◌≢◌, ℕ, suc, ◌+◌, ◌<◌, ◌||◌, Bool, true, false, List, [], ◌∷◌, length, map, Some, refl, sym, ◌∙◌, ap, subst, arith}
use Rattle.std.specs.Prelude.{nat_eq, get_or, slice_get}
use Rattle.std.specs.List.{IsDistinct, AllByRecursion}
use Rattle.std.specs.List.Sorted.{IsStrictlyIncreasing}
use Rattle.std.proofs.lemmas.Bool.{eq-eqb, ne_eqb}
use Rattle.ds_codec.specs.declared.cell.Cell.{Cell}
use Rattle.ds_screen.specs.Ring.{ring_on, ring_back}
use Rattle.ds_screen.proofs.RuledLaws.{place_before}
use Rattle.ds_inbound.specs.Answer.{field_sent, written_characters}
use Rattle.scr_layout.specs.Entry.{Declared}
use Rattle.scr_check.specs.Binding.{Pair}
use Rattle.scr_check.specs.Bindable.{ArePairsOf}
use Rattle.scr_check.specs.Promise.{is_among, IsDeclaredField}
use Rattle.tn_session.specs.Outcomes.{AreOfEntries}

pub or_late : (a b : Bool) → b ≡ true → (a || b) ≡ true
or_late true b is = refl
or_late false b is = is

or_first : (a b : Bool) → a ≡ true → (a || b) ≡ true
or_first true b is = refl
or_first false b is = absurd cc

pub is_first : (q : ℕ) (places : List ℕ) → is_among (q ∷ places) q ≡ true
is_first q places = or_first (nat_eq q q) (is_among places q) (eq-eqb q q refl)

pub some_same : {X : Type 0} {x y : X} → Some x ≡ Some y → x ≡ y
some_same e = cc

-- ---- rising places
tail_rises : (q : ℕ) (places : List ℕ) → IsStrictlyIncreasing (q ∷ places) → IsStrictlyIncreasing places
tail_rises q places rising k within =
    let next : suc k + 1 ≡ suc (k + 1) = omega arith in
    subst (λ n. get_or places k 0 < get_or (q ∷ places) n 0) next (rising (suc k) (omega arith))

lower : (q x : ℕ) → q < x → (places : List ℕ) → AllByRecursion (λ z. x < z) places → AllByRecursion (λ z. q < z) places
lower q x less [] all = tt
lower q x less (z ∷ places) all = (let next : x < z = all.0 in omega arith, lower q x less places all.1)

above : (q : ℕ) (places : List ℕ) → IsStrictlyIncreasing (q ∷ places) → AllByRecursion (λ z. q < z) places
above q [] rising = tt
above q (x ∷ places) rising =
    let less : q < x = rising 0 (omega arith) in
    (less, lower q x less places (above x places (tail_rises q (x ∷ places) rising)))

module _ (entries : List Declared) (before cells : List Cell) where
  abbrev pub AreDeclared : List ℕ → Type 0
  AreDeclared places = (q : ℕ) → is_among places q ≡ true → IsDeclaredField entries before cells q

  pub behind : (q : ℕ) (places : List ℕ) → AreDeclared (q ∷ places) → AreDeclared places
  behind q places each z there = each z (or_late (nat_eq q z) (is_among places z) there)

  abbrev pub AreInside : List ℕ → Type 0
  AreInside places = (q : ℕ) → is_among places q ≡ true → q < length cells

  inside_behind : (q : ℕ) (places : List ℕ) → AreInside (q ∷ places) → AreInside places
  inside_behind q places each z there = each z (or_late (nat_eq q z) (is_among places z) there)

  -- the pair of each attribute's field
  abbrev pub pairs_of : (places : List ℕ) → AreDeclared places → List Pair
  pairs_of [] each = []
  pairs_of (q ∷ places) each =
      record { entry = (each q (is_first q places)).index; characters = (field_sent cells q).characters }
      ∷ pairs_of places (behind q places each)

  pub are_paired : (places : List ℕ) (each : AreDeclared places) → ArePairsOf entries (map (field_sent cells) places) (pairs_of places each)
  are_paired [] each = tt
  are_paired (q ∷ places) each =
      let d : IsDeclaredField entries before cells q = each q (is_first q places) in (
        record { entry = d.entry; here = d.here; declared = d.declared; short = d.short; same = refl },
        are_paired places (behind q places each),
      )

  pub are_of_entries : (places : List ℕ) (each : AreDeclared places)
      → AreOfEntries entries cells places (map (λ (pair : Pair). (pair.entry, written_characters pair.characters)) (pairs_of places each))
  are_of_entries [] each = tt
  are_of_entries (q ∷ places) each = ((each q (is_first q places)).here, refl, are_of_entries places (behind q places each))

  -- ---- no entry comes twice
  sent_back : (q : ℕ) → q < length cells → ring_back (length cells) (field_sent cells q).place 1 ≡ q
  unfolding field_sent
  sent_back q lt = place_before (length cells) (length cells) q (ring_on (length cells) q 1) lt refl refl

  one_entry : (q z : ℕ) (d : IsDeclaredField entries before cells q) (e : IsDeclaredField entries before cells z) → d.index ≡ e.index → d.entry ≡ e.entry
  one_entry q z d e same = some_same (sym d.declared ∙ ap (slice_get entries) same ∙ e.declared)

  entries_apart : (q z : ℕ) (d : IsDeclaredField entries before cells q) (e : IsDeclaredField entries before cells z) → q < length cells → z < length cells → q < z → d.index ≢ e.index
  entries_apart q z d e here there less same =
      let place : (field_sent cells q).place ≡ (field_sent cells z).place = d.place ∙ ap (λ (x : Declared). x.place) (one_entry q z d e same) ∙ sym e.place in
      let equal : q ≡ z = sym (sent_back q here) ∙ ap (λ p. ring_back (length cells) p 1) place ∙ sent_back z there in
      omega arith

  abbrev pub indices : (places : List ℕ) → AreDeclared places → List ℕ
  indices places each = map (λ (pair : Pair). pair.entry) (pairs_of places each)

  apart_from : (q : ℕ) (d : IsDeclaredField entries before cells q) → q < length cells → (places : List ℕ) (each : AreDeclared places) → AreInside places
      → AllByRecursion (λ z. q < z) places → AllByRecursion (λ y. nat_eq d.index y ≡ false) (indices places each)
  apart_from q d here [] each inside less = tt
  apart_from q d here (z ∷ places) each inside less =
      let e : IsDeclaredField entries before cells z = each z (is_first z places) in (
        ne_eqb d.index e.index (entries_apart q z d e here (inside z (is_first z places)) less.0),
        apart_from q d here places (behind z places each) (inside_behind z places inside) less.1,
      )

  pub pairs_once : (places : List ℕ) (each : AreDeclared places) → AreInside places → IsStrictlyIncreasing places → IsDistinct nat_eq (indices places each)
  unfolding IsDistinct
  pairs_once [] each inside rising = tt
  pairs_once (q ∷ places) each inside rising = (
    apart_from q (each q (is_first q places)) (inside q (is_first q places)) places (behind q places each) (inside_behind q places inside) (above q places rising),
    pairs_once places (behind q places each) (inside_behind q places inside) (tail_rises q places rising),
  )
