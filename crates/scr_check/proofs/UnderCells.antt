-- Cells like others, with fewer modified data tags on unprotected attributes, whatever the characters.
use Rattle.std.proofs.Common.{◌≡◌, ℕ, ◌+◌, ◌-◌, ◌⊎◌, ◌&&◌, Bool, true, false, not, cond, List, length, Option, Some, None, refl, sym, ◌∙◌, ap, subst, arith, inl, inr}
use mathlib.Core.Path.{fun_ext}
use Rattle.std.specs.Option.{option_map}
use Rattle.std.specs.List.{range_with_len, filter}
use Rattle.std.proofs.lemmas.Bool.{cond-false, cases_lt, false≢true}
use Rattle.std.proofs.lemmas.List.{get_or_past}
use Rattle.ds_codec.specs.declared.cell.Cell.{Cell}
use Rattle.ds_codec.specs.declared.cell.Cell.TheVariants.{Field, Char}
use Rattle.ds_codec.specs.Attribute.{is_protected, is_modified, with_modified}
use Rattle.ds_screen.specs.Ring.{ring_back, least}
use Rattle.ds_screen.specs.Picture.{blank, cell_at, ruled}
use Rattle.ds_screen.specs.Fields.{is_attribute, is_character, bits_of, attribute_before, is_at, bits_at, governs, is_open, span_of, attributes_from}
use Rattle.ds_screen.specs.Orders.{is_unprotected_attribute, first_from}
use Rattle.ds_screen.specs.Records.{unmodified, unprotected_unmodified}
use Rattle.ds_screen.proofs.RuledLaws.{length-ruled, cell_at-ruled}
use Rattle.ds_screen.proofs.WorstLaws.{span_same}
use Rattle.ds_keys.proofs.CellLaws.{protected_kept, reset_so}

-- ---- one cell

-- the same attribute, or an unprotected one without the tag that the other may have; any two characters
abbrev pub CellUnder : Cell → Cell → Type 0
CellUnder (Field x) (Field y) = (x ≡ y) ⊎ ((is_protected y ≡ false) × (x ≡ with_modified y false))
CellUnder (Field x) (Char d) = ⊥
CellUnder (Char c) (Field y) = ⊥
CellUnder (Char c) (Char d) = Unit {0}

pub cell_same : (x : Cell) → CellUnder x x
cell_same (Field x) = inl refl
cell_same (Char c) = tt

pub field_same : (x y : ℕ) → x ≡ y → CellUnder (Field x) (Field y)
field_same x y same = inl same

pub under_kind : (x y : Cell) → CellUnder x y → is_attribute x ≡ is_attribute y
under_kind (Field x) (Field y) u = refl
under_kind (Field x) (Char d) u = absurd u
under_kind (Char c) (Field y) u = absurd u
under_kind (Char c) (Char d) u = refl

pub under_protection : (x y : Cell) → CellUnder x y → is_protected (bits_of x) ≡ is_protected (bits_of y)
under_protection (Field x) (Field y) (inl same) = ap is_protected same
under_protection (Field x) (Field y) (inr (free, is)) = ap is_protected is ∙ protected_kept y false
under_protection (Field x) (Char d) u = absurd u
under_protection (Char c) (Field y) u = absurd u
under_protection (Char c) (Char d) u = refl

pub under_modified : (x y : Cell) → CellUnder x y → is_modified (bits_of x) ≡ true → is_modified (bits_of y) ≡ true
under_modified (Field x) (Field y) (inl same) does = ap is_modified (sym same) ∙ does
under_modified (Field x) (Field y) (inr (free, is)) does = absurd (false≢true (sym (ap is_modified is ∙ reset_so y) ∙ does))
under_modified (Field x) (Char d) u does = absurd u
under_modified (Char c) (Field y) u does = absurd u
under_modified (Char c) (Char d) u does = does

-- the bits of both, whether attributes or not
pub under_bits : (x y : Cell) → CellUnder x y → CellUnder (Field (bits_of x)) (Field (bits_of y))
under_bits (Field x) (Field y) u = u
under_bits (Field x) (Char d) u = absurd u
under_bits (Char c) (Field y) u = absurd u
under_bits (Char c) (Char d) u = inl refl

pub under_free : (x y : Cell) → CellUnder x y → is_unprotected_attribute x ≡ is_unprotected_attribute y
under_free (Field x) (Field y) u = ap not (under_protection (Field x) (Field y) u)
under_free (Field x) (Char d) u = absurd u
under_free (Char c) (Field y) u = absurd u
under_free (Char c) (Char d) u = refl

reset_again : (bits : ℕ) → with_modified (with_modified bits false) false ≡ with_modified bits false
reset_again bits = omega arith

pub under_unmodified : (x y : Cell) → CellUnder x y → CellUnder (unmodified x) (unmodified y)
under_unmodified (Field x) (Field y) (inl same) = inl (ap (λ b. with_modified b false) same)
under_unmodified (Field x) (Field y) (inr (free, is)) = inl (ap (λ b. with_modified b false) is ∙ reset_again y)
under_unmodified (Field x) (Char d) u = absurd u
under_unmodified (Char c) (Field y) u = absurd u
under_unmodified (Char c) (Char d) u = tt

pub under_cleared : (x y : Cell) → CellUnder x y → CellUnder (unprotected_unmodified x) (unprotected_unmodified y)
under_cleared (Field x) (Field y) (inl same) = inl (ap (λ b. cond (is_protected b) b (with_modified b false)) same)
under_cleared (Field x) (Field y) (inr (free, is)) =
    let opens : is_protected x ≡ false = under_protection (Field x) (Field y) (inr (free, is)) ∙ free in
    inl (cond-false (is_protected x) x (with_modified x false) opens ∙ ap (λ b. with_modified b false) is ∙ reset_again y ∙ sym (cond-false (is_protected y) y (with_modified y false) free))
under_cleared (Field x) (Char d) u = absurd u
under_cleared (Char c) (Field y) u = absurd u
under_cleared (Char c) (Char d) u = tt

-- one of two cells, by the same test
pub under_cond : (t s : Bool) (x y z w : Cell) → t ≡ s → CellUnder x y → CellUnder z w → CellUnder (cond t x z) (cond s y w)
under_cond true true x y z w same u v = u
under_cond false false x y z w same u v = v
under_cond true false x y z w same u v = absurd cc
under_cond false true x y z w same u v = absurd cc

-- ---- buffers
pub record AreUnder (a b : List Cell) : Type 0 where
  pub whole : length a ≡ length b
  pub each : (p : ℕ) → CellUnder (cell_at a p) (cell_at b p)

pub all_same : (a : List Cell) → AreUnder a a
all_same a = record { whole = refl; each = λ p. cell_same (cell_at a p) }

-- two rules
pub rules_under : (n m : ℕ) (rule other : ℕ → Cell) → n ≡ m → ((p : ℕ) → CellUnder (rule p) (other p)) → AreUnder (ruled n rule) (ruled m other)
rules_under n m rule other same each =
    record {
      whole = length-ruled n rule ∙ same ∙ sym (length-ruled m other);
      each = λ p. elim (cases_lt p n) [
        | inl lt ↦
            let x = cell_at-ruled n rule p lt in
            let y = cell_at-ruled m other p (omega (arith, lt, same)) in
            subst (λ z. CellUnder z (cell_at (ruled m other) p)) (sym x) (subst (CellUnder (rule p)) (sym y) (each p))
        | inr past ↦
            let x : cell_at (ruled n rule) p ≡ blank = get_or_past (ruled n rule) p blank (omega (arith, length-ruled n rule)) in
            let y : cell_at (ruled m other) p ≡ blank = get_or_past (ruled m other) p blank (omega (arith, length-ruled m other, same)) in
            subst (λ z. CellUnder z (cell_at (ruled m other) p)) (sym x) (subst (CellUnder blank) (sym y) tt)
      ];
    }

kinds : (a b : List Cell) → AreUnder a b → ◌≡◌ {A = ℕ → Bool} (λ p. is_attribute (cell_at a p)) (λ p. is_attribute (cell_at b p))
kinds a b u = fun_ext (λ p. under_kind (cell_at a p) (cell_at b p) (u.each p))

frees : (a b : List Cell) → AreUnder a b → ◌≡◌ {A = ℕ → Bool} (λ p. is_unprotected_attribute (cell_at a p)) (λ p. is_unprotected_attribute (cell_at b p))
frees a b u = fun_ext (λ p. under_free (cell_at a p) (cell_at b p) (u.each p))

-- ---- searches find the same
before_by : ℕ → (ℕ → Bool) → ℕ → Option ℕ
before_by n test p = option_map (ring_back n p) (least n (λ d. test (ring_back n p d)))

before_told : (cells : List Cell) (p : ℕ) → attribute_before cells p ≡ before_by (length cells) (λ q. is_attribute (cell_at cells q)) p
unfolding before_by attribute_before
before_told cells p = refl

pub same_before : (a b : List Cell) (p : ℕ) → AreUnder a b → attribute_before a p ≡ attribute_before b p
same_before a b p u =
    before_told a p ∙ ap (λ n. before_by n (λ q. is_attribute (cell_at a q)) p) u.whole ∙ ap (λ t. before_by (length b) t p) (kinds a b u) ∙ sym (before_told b p)

first_by : ℕ → (ℕ → Bool) → ℕ → Option ℕ
first_by n test b = option_map (λ d. b + d) (least (n - b) (λ d. test (b + d)))

first_told : (test : Cell → Bool) (cells : List Cell) (b : ℕ) → first_from test cells b ≡ first_by (length cells) (λ q. test (cell_at cells q)) b
unfolding first_by first_from
first_told test cells b = refl

pub same_first : (test : Cell → Bool) (a b : List Cell) (from : ℕ) → length a ≡ length b → ◌≡◌ {A = ℕ → Bool} (λ p. test (cell_at a p)) (λ p. test (cell_at b p))
    → first_from test a from ≡ first_from test b from
same_first test a b from n same =
    first_told test a from ∙ ap (λ m. first_by m (λ q. test (cell_at a q)) from) n ∙ ap (λ t. first_by (length b) t from) same ∙ sym (first_told test b from)

pub same_first_attribute : (a b : List Cell) (from : ℕ) → AreUnder a b → first_from is_attribute a from ≡ first_from is_attribute b from
same_first_attribute a b from u = same_first is_attribute a b from u.whole (kinds a b u)

pub same_first_free : (a b : List Cell) (from : ℕ) → AreUnder a b → first_from is_unprotected_attribute a from ≡ first_from is_unprotected_attribute b from
same_first_free a b from u = same_first is_unprotected_attribute a b from u.whole (frees a b u)

protection_at : (a b : List Cell) (o : Option ℕ) → AreUnder a b → is_protected (bits_at a o) ≡ is_protected (bits_at b o)
protection_at a b None u = refl
protection_at a b (Some q) u = under_protection (cell_at a q) (cell_at b q) (u.each q)

pub same_open : (a b : List Cell) (p : ℕ) → AreUnder a b → is_open a p ≡ is_open b p
same_open a b p u =
    ap (λ t. not t && not (is_protected (bits_at a (attribute_before a p)))) (under_kind (cell_at a p) (cell_at b p) (u.each p))
    ∙ ap (λ o. is_character (cell_at b p) && not (is_protected (bits_at a o))) (same_before a b p u)
    ∙ ap (λ t. is_character (cell_at b p) && not t) (protection_at a b (attribute_before b p) u)

pub same_governs : (a b : List Cell) (q p : ℕ) → AreUnder a b → governs a q p ≡ governs b q p
same_governs a b q p u =
    ap (λ t. not t && is_at (attribute_before a p) q) (under_kind (cell_at a p) (cell_at b p) (u.each p))
    ∙ ap (λ o. is_character (cell_at b p) && is_at o q) (same_before a b p u)

pub same_span : (a b : List Cell) (q : ℕ) → AreUnder a b → span_of a q ≡ span_of b q
same_span a b q u = span_same a b q u.whole (λ p. under_kind (cell_at a p) (cell_at b p) (u.each p))

pub same_attributes : (a b : List Cell) (p : ℕ) → AreUnder a b → attributes_from a p ≡ attributes_from b p
same_attributes a b p u =
    ap (λ test. filter test (range_with_len p (length a - p))) (kinds a b u)
    ∙ ap (λ n. filter (λ q. is_attribute (cell_at b q)) (range_with_len p (n - p))) u.whole
