-- What follows for the protected part of a screen, and for its fields, where keys kept its cells.
use Rattle.std.proofs.Common.{◌≡◌, ℕ, ◌-◌, ◌<◌, ◌&&◌, Bool, true, false, not, List, length, map, Some, refl, sym, ◌∙◌, ap, arith, inl, inr}
use Rattle.std.specs.List.{range_with_len, filter}
use Rattle.std.proofs.lemmas.Bool.{cond-true, cond-false, cases_lt, cases_Bool, false≢true, and_parts}
use Rattle.std.proofs.lemmas.List.{get_or_past}
use Rattle.std.proofs.lemmas.List.Elements.{filter_agree}
use Rattle.ds_codec.specs.declared.cell.Cell.{Cell}
use Rattle.ds_codec.specs.declared.cell.Cell.TheVariants.{Field, Char}
use Rattle.ds_codec.specs.Attribute.{is_protected, with_modified}
use Rattle.ds_screen.specs.Ring.{ring_on}
use Rattle.ds_screen.specs.Picture.{cell_at, blank}
use Rattle.ds_screen.specs.Fields.{is_attribute, is_character, bits_of, bits_at, attribute_before, is_at, governs, is_open, span_of, attributes_from}
use Rattle.ds_screen.specs.Records.{unprotected_unmodified}
use Rattle.ds_keys.specs.Laws.{Keeps}
use Rattle.ds_keys.proofs.CellLaws.{protected_kept, found_at, same_kind, same_governs}
use Rattle.scr_check.specs.Promise.{IsProtectedSame}

-- ---- single cells

pub attribute_inside : (cells : List Cell) (q : ℕ) → is_attribute (cell_at cells q) ≡ true → q < length cells
attribute_inside cells q there =
    elim (cases_lt q (length cells)) [
      | inl lt ↦ lt
      | inr past ↦ absurd (false≢true (sym (ap is_attribute (get_or_past cells q blank past)) ∙ there))
    ]

-- a protected cell is an attribute
protected_there : (x : Cell) → is_protected (bits_of x) ≡ true → is_attribute x ≡ true
protected_there (Field bits) shut = refl
protected_there (Char character) shut = absurd cc

-- the tag aside twice
reset_reset : (bits : ℕ) → with_modified (with_modified bits false) false ≡ with_modified bits false
reset_reset bits = omega arith

parts_reset : (x : Cell) → with_modified (bits_of (unprotected_unmodified x)) false ≡ with_modified (bits_of x) false
parts_reset (Char character) = refl
parts_reset (Field bits) =
    elim (cases_Bool (is_protected bits)) [
      | inl shut ↦ ap (λ b. with_modified b false) (cond-true (is_protected bits) _ _ shut)
      | inr opens ↦ ap (λ b. with_modified b false) (cond-false (is_protected bits) _ _ opens) ∙ reset_reset bits
    ]

-- a character that stays but for the tag of an attribute stays
character_same : (x y : Cell) → is_attribute y ≡ false → unprotected_unmodified x ≡ unprotected_unmodified y → x ≡ y
character_same (Field bits) (Char character) none same = absurd cc
character_same (Char other) (Char character) none same = same
character_same x (Field bits) none same = absurd cc

fields_same : (bits b : ℕ) → Field bits ≡ Field b → bits ≡ b
fields_same bits b same = cc

field_same : (x : Cell) (b : ℕ) → is_protected b ≡ true → unprotected_unmodified x ≡ Field b → x ≡ Field b
field_same (Char character) b shut same = absurd cc
field_same (Field bits) b shut same =
    elim (cases_Bool (is_protected bits)) [
      | inl is ↦ ap (λ z. Field z) (sym (cond-true (is_protected bits) bits (with_modified bits false) is)) ∙ same
      | inr not ↦
          let e : with_modified bits false ≡ b = sym (cond-false (is_protected bits) bits (with_modified bits false) not) ∙ fields_same _ _ same in
          absurd (false≢true (sym not ∙ sym (protected_kept bits false) ∙ ap is_protected e ∙ shut))
    ]

protected_same : (x y : Cell) → is_protected (bits_of y) ≡ true → unprotected_unmodified x ≡ unprotected_unmodified y → x ≡ y
protected_same x (Char character) shut same = absurd cc
protected_same x (Field b) shut same = field_same x b shut (same ∙ ap (λ z. Field z) (cond-true (is_protected b) b (with_modified b false) shut))

-- ---- what is not open

pub attribute_shut : (cells : List Cell) (q : ℕ) → is_attribute (cell_at cells q) ≡ true → is_open cells q ≡ false
attribute_shut cells q there = ap (λ t. not t && not (is_protected (bits_at cells (attribute_before cells q)))) there

governed_before : (cells : List Cell) (q p : ℕ) → governs cells q p ≡ true → (is_attribute (cell_at cells p) ≡ false) × (attribute_before cells p ≡ Some q)
governed_before cells q p rules =
    let parts = and_parts (is_character (cell_at cells p)) (is_at (attribute_before cells p) q) rules in
    (not_true (is_attribute (cell_at cells p)) parts.0, found_at (attribute_before cells p) q parts.1)
  where
    not_true : (t : Bool) → not t ≡ true → t ≡ false
    not_true true e = absurd cc
    not_true false e = refl

and_shut : (t s : Bool) → s ≡ true → (t && not s) ≡ false
and_shut true s is = ap not is
and_shut false s is = refl

governed_shut : (cells : List Cell) (q p : ℕ) → governs cells q p ≡ true → is_protected (bits_of (cell_at cells q)) ≡ true → is_open cells p ≡ false
governed_shut cells q p rules shut =
    and_shut (is_character (cell_at cells p)) (is_protected (bits_at cells (attribute_before cells p)))
    (ap (λ o. is_protected (bits_at cells o)) (governed_before cells q p rules).1 ∙ shut)

pub kept_protected : (before after : List Cell) → Keeps before after → IsProtectedSame before after
kept_protected before after k =
    record {
      whole = k.whole;
      places = λ p. same_kind before after p k;
      protected = λ p shut. protected_same (cell_at after p) (cell_at before p) shut (k.closed p (attribute_shut before p (protected_there (cell_at before p) shut)));
      bits = λ p there.
          sym (parts_reset (cell_at after p)) ∙ ap (λ x. with_modified (bits_of x) false) (k.closed p (attribute_shut before p there)) ∙ parts_reset (cell_at before p);
      characters = λ q p rules shut.
          character_same (cell_at after p) (cell_at before p) (governed_before before q p rules).0 (k.closed p (governed_shut before q p rules shut));
    }

-- ---- attributes and spans

pub same_attributes : (before after : List Cell) → Keeps before after → attributes_from after 0 ≡ attributes_from before 0
same_attributes before after k =
    ap (λ n. filter (λ q. is_attribute (cell_at after q)) (range_with_len 0 (n - 0))) k.whole
    ∙ filter_agree (λ q. is_attribute (cell_at after q)) (λ q. is_attribute (cell_at before q)) (λ q. same_kind before after q k) (range_with_len 0 (length before - 0))

pub same_span : (before after : List Cell) (q : ℕ) → Keeps before after → span_of after q ≡ span_of before q
unfolding span_of
same_span before after q k =
    ap (λ n. filter (governs after q) (map (ring_on n q) (range_with_len 1 (n - 1)))) k.whole
    ∙ filter_agree (governs after q) (governs before q) (λ p. same_governs before after q p k) (map (ring_on (length before) q) (range_with_len 1 (length before - 1)))
