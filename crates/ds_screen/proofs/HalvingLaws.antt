-- What a search of the index finds, on the screen.
use Rattle.std.proofs.Common.{◌≡◌, ℕ, ◌+◌, ◌-◌, ◌<◌, true, false, List, length, Option, Some, None, refl, sym, ◌∙◌, ap, arith, inl, inr}
use Rattle.std.specs.Option.{IfSome}
use Rattle.std.proofs.lemmas.Bool.{cases_lt}
use Rattle.ds_codec.specs.declared.cell.Cell.{Cell}
use Rattle.ds_codec.specs.declared.cell.Cell.TheVariants.{Field, Char}
use Rattle.ds_places.specs.Places.{at_place}
use Rattle.ds_places.specs.Nearest.{IsFirstFrom, IsLastBelow}
use Rattle.ds_screen.specs.Ring.{ring_on, ring_back}
use Rattle.ds_screen.specs.Picture.{cell_at}
use Rattle.ds_screen.specs.Fields.{is_attribute, attribute_before, attribute_from}
use Rattle.ds_screen.specs.Planes.{itself, spot_of, IsIndex}
use Rattle.ds_screen.proofs.RingLaws.{back_cases, on_inside, on_round, on_cases}
use Rattle.ds_screen.proofs.FieldLaws.{before_found, before_none, from_found, from_none, each_before_there}
use Rattle.ds_screen.proofs.MarkLaws.{past_blank}

-- ---- what an index holds, and what stands there
pub held_attribute : (index : List ℕ) (cells : List Cell) (q r : ℕ) → IsIndex index cells → at_place itself index q ≡ Some r → (is_attribute (cell_at cells q) ≡ true) × (r ≡ q) × (q < length cells)
held_attribute index cells q r listed held =
    let is : spot_of q (cell_at cells q) ≡ Some r = sym (listed.each q) ∙ held in
    let parts = parts_of q (cell_at cells q) r is in (
      parts.0,
      parts.1,
      elim (cases_lt q (length cells)) [
        | inl lt ↦ lt
        | inr far ↦ let e = sym (ap (spot_of q) (past_blank cells q far)) ∙ is in absurd cc
      ],
    )
  where
    parts_of : (q : ℕ) (cell : Cell) (r : ℕ) → spot_of q cell ≡ Some r → (is_attribute cell ≡ true) × (r ≡ q)
    parts_of q (Field bits) r is = (refl, let e = is in cc)
    parts_of q (Char c) r is = absurd (let e = is in cc)

pub none_held : (index : List ℕ) (cells : List Cell) (q : ℕ) → IsIndex index cells → at_place itself index q ≡ None → is_attribute (cell_at cells q) ≡ false
none_held index cells q listed none = no_spot q (cell_at cells q) (sym (listed.each q) ∙ none)
  where
    no_spot : (q : ℕ) (cell : Cell) → spot_of q cell ≡ None → is_attribute cell ≡ false
    no_spot q (Field bits) e = absurd cc
    no_spot q (Char c) e = refl

-- ---- the search back by the entries below a place
pub before_last : (index : List ℕ) (cells : List Cell) (p q : ℕ) → IsIndex index cells → p < length cells → IsLastBelow itself index (p + 1) (Some q) → Some q ≡ attribute_before cells p
before_last index cells p q listed inside found =
    let n : ℕ = length cells in
    let back : ring_back n p (p - q) ≡ q = elim (back_cases n p (p - q)) [ inl a ↦ omega (arith, a.1, found.0) | inr a ↦ omega (arith, a.0) ] in
    before_found cells n p (p - q) q refl (omega (arith, inside)) (sym back)
    (λ e few. elim (back_cases n p e) [
      | inl a ↦ none_held index cells (ring_back n p e) listed (found.2 (ring_back n p e) (omega (arith, a.1, few)) (omega (arith, a.1)))
      | inr a ↦ absurd (omega (arith, a.0, few))
    ])
    (held_attribute index cells q q listed found.1).0

before_wrap : (index : List ℕ) (cells : List Cell) (p q : ℕ) → IsIndex index cells → p < length cells → IsLastBelow itself index (p + 1) None → IsLastBelow itself index (length cells) (Some q)
    → Some q ≡ attribute_before cells p
before_wrap index cells p q listed inside none found =
    let n : ℕ = length cells in
    let ahead : p < q = elim (cases_lt p q) [
      | inl less ↦ less
      | inr more ↦ let e = sym (none q (omega (arith, more))) ∙ found.1 in absurd cc
    ] in
    let d : ℕ = p + n - q in
    let back : ring_back n p d ≡ q = elim (back_cases n p d) [ inl a ↦ omega (arith, a.0, found.0, ahead) | inr a ↦ omega (arith, a.1, found.0) ] in
    before_found cells n p d q refl (omega (arith, found.0, ahead)) (sym back)
    (λ e few. elim (back_cases n p e) [
      | inl a ↦ none_held index cells (ring_back n p e) listed (none (ring_back n p e) (omega (arith, a.1)))
      | inr a ↦ none_held index cells (ring_back n p e) listed (found.2 (ring_back n p e) (omega (arith, a.1, few, found.0, ahead)) (omega (arith, a.0, a.1, few, found.0, ahead)))
    ])
    (held_attribute index cells q q listed found.1).0

pub before_again : (index : List ℕ) (cells : List Cell) (p : ℕ) (o : Option ℕ) → IsIndex index cells → p < length cells → IsLastBelow itself index (p + 1) None → IsLastBelow itself index (length cells) o
    → o ≡ attribute_before cells p
before_again index cells p None listed inside none found =
    before_none cells (length cells) p refl (λ e few. none_held index cells (ring_back (length cells) p e) listed (found (ring_back (length cells) p e)
    (elim (back_cases (length cells) p e) [ inl a ↦ omega (arith, a.1, inside) | inr a ↦ omega (arith, a.0, a.1) ])))
before_again index cells p (Some q) listed inside none found = before_wrap index cells p q listed inside none found

-- ---- the search on
pub from_ahead : (index : List ℕ) (cells : List Cell) (p q : ℕ) → IsIndex index cells → IsFirstFrom itself index p (Some q) → Some q ≡ attribute_from cells p
from_ahead index cells p q listed found =
    let n : ℕ = length cells in
    let there = held_attribute index cells q q listed found.1 in
    let here : q ≡ ring_on n p (q - p) =
    let sum : p + (q - p) ≡ q = omega (arith, found.0) in
    sym (on_inside n p (q - p) (omega (arith, there.2, sum)) ∙ sum) in
    from_found cells n p (q - p) q refl (omega (arith, there.2)) here
    (λ e few. ap (λ z. is_attribute (cell_at cells z)) (on_inside n p e (omega (arith, there.2, found.0)))
    ∙ none_held index cells (p + e) listed (found.2 (p + e) (omega arith) (omega (arith, found.0))))
    there.0

pub from_round : (index : List ℕ) (cells : List Cell) (p q : ℕ) → IsIndex index cells → p < length cells → IsFirstFrom itself index p None → IsFirstFrom itself index 0 (Some q)
    → Some q ≡ attribute_from cells p
from_round index cells p q listed inside none found =
    let n : ℕ = length cells in
    let there = held_attribute index cells q q listed found.1 in
    let before : q < p = elim (cases_lt q p) [
      | inl less ↦ less
      | inr more ↦ let e = sym (none q more) ∙ found.1 in absurd cc
    ] in
    let d : ℕ = n - p + q in
    let here : q ≡ ring_on n p d =
    let sum : p + d - n ≡ q = omega arith in
    sym (on_round n p d (omega arith) ∙ sum) in
    from_found cells n p d q refl (omega arith) here
    (λ e few. elim (on_cases n p e) [
      | inl a ↦ ap (λ z. is_attribute (cell_at cells z)) a.1 ∙ none_held index cells (p + e) listed (none (p + e) (omega arith))
      | inr a ↦ ap (λ z. is_attribute (cell_at cells z)) a.1 ∙ none_held index cells (p + e - n) listed (found.2 (p + e - n) (omega arith) (omega arith))
    ])
    there.0

pub from_never : (index : List ℕ) (cells : List Cell) (p : ℕ) → IsIndex index cells → IsFirstFrom itself index 0 None → None ≡ attribute_from cells p
from_never index cells p listed none =
    from_none cells (length cells) p refl (λ e few. none_held index cells (ring_on (length cells) p e) listed (none (ring_on (length cells) p e) (omega arith)))

pub from_again : (index : List ℕ) (cells : List Cell) (p : ℕ) (o : Option ℕ) → IsIndex index cells → p < length cells → IsFirstFrom itself index p None → IsFirstFrom itself index 0 o
    → o ≡ attribute_from cells p
from_again index cells p None listed inside none found = from_never index cells p listed found
from_again index cells p (Some q) listed inside none found = from_round index cells p q listed inside none found

-- ---- what is found is a position
pub before_inside : (cells : List Cell) (p : ℕ) (o : Option ℕ) → o ≡ attribute_before cells p → IfSome o (λ q. q < length cells)
before_inside cells p o is = inside cells o (each_before_there cells p o is)
  where
    inside : (cells : List Cell) (o : Option ℕ) → IfSome o (λ q. is_attribute (cell_at cells q) ≡ true) → IfSome o (λ q. q < length cells)
    inside cells None h = tt
    inside cells (Some q) h = elim (cases_lt q (length cells)) [
      | inl lt ↦ lt
      | inr far ↦ let e = sym (ap is_attribute (past_blank cells q far)) ∙ h in absurd cc
    ]
