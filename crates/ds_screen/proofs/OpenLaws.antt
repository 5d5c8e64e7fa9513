-- What is open, by the attribute that governs.
use Rattle.std.proofs.Common.{◌≡◌, ℕ, ◌<◌, ◌&&◌, true, not, List, length, Option, Some, None, refl, sym, ◌∙◌, ap, inl, inr}
use Rattle.std.proofs.lemmas.Bool.{eq-eqb, eqb-true, and_parts, not-true}
use Rattle.ds_codec.specs.declared.cell.Cell.{Cell}
use Rattle.ds_codec.specs.Attribute.{is_protected}
use Rattle.ds_screen.specs.Ring.{ring_back, ring_distance}
use Rattle.ds_screen.specs.Picture.{cell_at}
use Rattle.ds_screen.specs.Fields.{is_attribute, is_character, bits_of, bits_at, attribute_before, is_at, governs, is_open}
use Rattle.ds_screen.specs.Laws.{IsOpen, OpensExactly}
use Rattle.ds_screen.proofs.RingLaws.{search_cases}
use Rattle.ds_screen.proofs.RuledLaws.{distance_lt}
use Rattle.ds_screen.proofs.FieldLaws.{before_found, before_none}
use Rattle.ds_screen.proofs.GovernLaws.{back_distance, back_inside_ring, governs_so, so_governs}

open_so : (cells : List Cell) (p : ℕ) → p < length cells → is_open cells p ≡ true → IsOpen cells p
open_so cells p inside so =
    let n : ℕ = length cells in
    let parts = and_parts (is_character (cell_at cells p)) (not (is_protected (bits_at cells (attribute_before cells p)))) so in
    elim (search_cases n (λ d. is_attribute (cell_at cells (ring_back n p d)))) [
      | inl found ↦
          let q : ℕ = ring_back n p found.0 in
          let before : Some q ≡ attribute_before cells p = before_found cells n p found.0 q refl found.1.inside refl found.1.misses found.1.hit in
          let rules : governs cells q p ≡ true =
          ap (λ t. t && is_at (attribute_before cells p) q) parts.0 ∙ ap (λ o. is_at o q) (sym before) ∙ eq-eqb q q refl in
          let free : not (is_protected (bits_of (cell_at cells q))) ≡ true = ap (λ o. not (is_protected (bits_at cells o))) before ∙ parts.1 in
          (parts.0, inr (q, back_inside_ring n p found.0 inside found.1.inside, governs_so cells q p inside rules, not-true _ free))
      | inr none ↦
          (parts.0, inl (λ r lt. ap (λ z. is_attribute (cell_at cells z)) (sym (back_distance n p r inside lt)) ∙ none (ring_distance n r p) (distance_lt n r p lt inside)))
    ]

at_place : (o : Option ℕ) (q : ℕ) → is_at o q ≡ true → o ≡ Some q
at_place None q is = absurd cc
at_place (Some place) q is = ap (λ p. Some p) (eqb-true place q is)

so_open : (cells : List Cell) (p : ℕ) → p < length cells → IsOpen cells p → is_open cells p ≡ true
so_open cells p inside (character, inl none) =
    let n : ℕ = length cells in
    let before : None ≡ attribute_before cells p = before_none cells n p refl (λ d few. none (ring_back n p d) (back_inside_ring n p d inside few)) in
    ap (λ t. t && not (is_protected (bits_at cells (attribute_before cells p)))) character ∙ ap (λ o. not (is_protected (bits_at cells o))) (sym before)
so_open cells p inside (character, inr (q, lt, rules, free)) =
    let there = and_parts (is_character (cell_at cells p)) (is_at (attribute_before cells p) q) (so_governs cells q p lt inside rules) in
    let before : attribute_before cells p ≡ Some q = at_place (attribute_before cells p) q there.1 in
    ap (λ t. t && not (is_protected (bits_at cells (attribute_before cells p)))) character ∙ ap (λ o. not (is_protected (bits_at cells o))) before
    ∙ ap not free

pub opens_exactly : OpensExactly
opens_exactly cells p inside = (λ so. open_so cells p inside so, λ is. so_open cells p inside is)
