-- What a key may do to a cell.
use Rattle.std.proofs.Common.{◌≡◌, ℕ, zero, suc, ◌+◌, ◌-◌, ◌/◌, ◌%◌, ◌<◌, ◌≤◌, ◌&&◌, Bool, true, false, not, ◌==◌, cond, List, length, Option, Some, None, refl, sym, ◌∙◌, ap, arith, inl, inr}
use Rattle.std.specs.Option.{option_map}
use Rattle.std.proofs.lemmas.Bool.{cond-true, cond-false, cases_lt, cases_Bool, false≢true, not-true, and_parts, eqb-true, eq-eqb}
use Rattle.std.proofs.lemmas.List.{get_or_past}
use Rattle.ds_codec.specs.declared.cell.Cell.{Cell}
use Rattle.ds_codec.specs.declared.cell.Cell.TheVariants.{Field, Char}
use Rattle.ds_codec.specs.Attribute.{is_protected, is_modified, with_modified}
use Rattle.ds_screen.specs.Ring.{ring_back, least}
use Rattle.ds_screen.specs.Picture.{blank, cell_at, ruled}
use Rattle.ds_screen.specs.Fields.{is_attribute, is_character, bits_of, attribute_before, is_at, bits_at, governs, is_open}
use Rattle.ds_screen.specs.Records.{unprotected_unmodified}
use Rattle.ds_screen.proofs.RuledLaws.{length-ruled, cell_at-ruled}
use Rattle.ds_keys.specs.KeyStep.{modified, marked_cell}
use Rattle.ds_keys.specs.Laws.{Keeps}

-- ---- bits
pub protected_kept : (bits : ℕ) (to : Bool) → is_protected (with_modified bits to) ≡ is_protected bits
protected_kept bits true = ap (λ x. x % 2 == 1) (same bits)
  where
    same : (bits : ℕ) → (bits - bits % 2 + 1) / 32 ≡ bits / 32
    same bits = omega arith
protected_kept bits false = ap (λ x. x % 2 == 1) (same bits)
  where
    same : (bits : ℕ) → (bits - bits % 2 + 0) / 32 ≡ bits / 32
    same bits = omega arith

reset_again : (bits : ℕ) (to : Bool) → with_modified (with_modified bits to) false ≡ with_modified bits false
reset_again bits true = omega arith
reset_again bits false = omega arith

pub marked_so : (bits : ℕ) → is_modified (with_modified bits true) ≡ true
marked_so bits = let e : (bits - bits % 2 + 1) % 2 ≡ 1 = omega arith in eq-eqb _ 1 e

pub reset_so : (bits : ℕ) → is_modified (with_modified bits false) ≡ false
reset_so bits = let e : (bits - bits % 2 + 0) % 2 ≡ 0 = omega arith in ap (λ x. x == 1) e

-- ---- cells
pub kind_kept : (x : Cell) → is_attribute (unprotected_unmodified x) ≡ is_attribute x
kind_kept (Field bits) = refl
kind_kept (Char character) = refl

pub protection_kept : (x : Cell) → is_protected (bits_of (unprotected_unmodified x)) ≡ is_protected (bits_of x)
protection_kept (Field bits) = elim (cases_Bool (is_protected bits)) [
  | inl shut ↦ ap is_protected (cond-true (is_protected bits) _ _ shut)
  | inr opens ↦ ap is_protected (cond-false (is_protected bits) _ _ opens) ∙ protected_kept bits false
]
protection_kept (Char character) = refl

pub reset_twice : (x : Cell) → unprotected_unmodified (unprotected_unmodified x) ≡ unprotected_unmodified x
reset_twice (Char character) = refl
reset_twice (Field bits) = elim (cases_Bool (is_protected bits)) [
  | inl shut ↦ ap unprotected_unmodified (ap (λ b. Field b) (cond-true (is_protected bits) _ _ shut))
  | inr opens ↦
      let p : is_protected (with_modified bits false) ≡ false = protected_kept bits false ∙ opens in
      ap unprotected_unmodified (ap (λ b. Field b) (cond-false (is_protected bits) bits (with_modified bits false) opens))
      ∙ ap (λ b. Field b) (cond-false (is_protected (with_modified bits false)) _ _ p ∙ reset_again bits false ∙ sym (cond-false (is_protected bits) _ _ opens))
]

reset_marked : (x : Cell) → is_protected (bits_of x) ≡ false → unprotected_unmodified (modified x) ≡ unprotected_unmodified x
reset_marked (Char character) opens = refl
reset_marked (Field bits) opens =
    let p : is_protected (with_modified bits true) ≡ false = protected_kept bits true ∙ opens in
    ap (λ b. Field b) (cond-false (is_protected (with_modified bits true)) _ _ p ∙ reset_again bits true ∙ sym (cond-false (is_protected bits) _ _ opens))

pub character_bits : (x : Cell) → is_attribute x ≡ false → bits_of x ≡ 0
character_bits (Field bits) none = absurd cc
character_bits (Char character) none = refl

-- ---- open characters
pub open_parts : (cells : List Cell) (p : ℕ) → is_open cells p ≡ true
    → (is_character (cell_at cells p) ≡ true) × (is_protected (bits_at cells (attribute_before cells p)) ≡ false)
open_parts cells p is =
    let parts = and_parts (is_character (cell_at cells p)) (not (is_protected (bits_at cells (attribute_before cells p)))) is in
    (parts.0, not-true _ parts.1)

pub open_from_parts : (cells : List Cell) (p : ℕ) → is_character (cell_at cells p) ≡ true → is_protected (bits_at cells (attribute_before cells p)) ≡ false → is_open cells p ≡ true
open_from_parts cells p character opens =
    ap (λ t. t && not (is_protected (bits_at cells (attribute_before cells p)))) character ∙ ap not opens

pub found_at : (o : Option ℕ) (q : ℕ) → is_at o q ≡ true → o ≡ Some q
found_at None q is = absurd cc
found_at (Some place) q is = ap (λ x. Some x) (eqb-true place q is)

-- the attribute that governs an open character does not protect
pub governor_open : (cells : List Cell) (c q : ℕ) → is_open cells c ≡ true → is_at (attribute_before cells c) q ≡ true → is_protected (bits_of (cell_at cells q)) ≡ false
governor_open cells c q opens is =
    ap (λ o. is_protected (bits_at cells o)) (sym (found_at (attribute_before cells c) q is)) ∙ (open_parts cells c opens).1

-- marking the governor of an open character
pub marked_shape : (cells : List Cell) (c p : ℕ) → is_open cells c ≡ true → unprotected_unmodified (marked_cell cells c p) ≡ unprotected_unmodified (cell_at cells p)
marked_shape cells c p opens =
    elim (cases_Bool (is_at (attribute_before cells c) p)) [
      | inl here ↦ ap unprotected_unmodified (cond-true (is_at (attribute_before cells c) p) _ _ here) ∙ reset_marked (cell_at cells p) (governor_open cells c p opens here)
      | inr apart ↦ ap unprotected_unmodified (cond-false (is_at (attribute_before cells c) p) _ _ apart)
    ]

modified_kind : (x : Cell) → is_character (modified x) ≡ is_character x
modified_kind (Field bits) = refl
modified_kind (Char character) = refl

cond_kind : (t : Bool) (x : Cell) → is_character (cond t (modified x) x) ≡ is_character x
cond_kind true x = modified_kind x
cond_kind false x = refl

pub marked_kind : (cells : List Cell) (c p : ℕ) → is_character (marked_cell cells c p) ≡ is_character (cell_at cells p)
marked_kind cells c p = cond_kind (is_at (attribute_before cells c) p) (cell_at cells p)

-- ---- one cell of a rule
pub record CellKeeps (opens : Bool) (before after : Cell) : Type 0 where
  pub closed : opens ≡ false → unprotected_unmodified after ≡ unprotected_unmodified before
  pub open_stays : opens ≡ true → is_character after ≡ true

pub marked_keeps : (cells : List Cell) (c p : ℕ) → is_open cells c ≡ true → CellKeeps (is_open cells p) (cell_at cells p) (marked_cell cells c p)
marked_keeps cells c p opens =
    record {
      closed = λ shut. marked_shape cells c p opens;
      open_stays = λ here. marked_kind cells c p ∙ (open_parts cells p here).0;
    }

pub character_keeps : (opens : Bool) (before after : Cell) → opens ≡ true → is_character after ≡ true → CellKeeps opens before after
character_keeps opens before after is character =
    record { closed = λ shut. absurd (false≢true (sym shut ∙ is)); open_stays = λ here. character }

past_blank : (cells : List Cell) (p : ℕ) → length cells ≤ p → cell_at cells p ≡ blank
past_blank cells p far = get_or_past cells p blank far

-- a rule that keeps each cell
pub rule_keeps : (cells : List Cell) (rule : ℕ → Cell) → ((p : ℕ) → p < length cells → CellKeeps (is_open cells p) (cell_at cells p) (rule p))
    → Keeps cells (ruled (length cells) rule)
rule_keeps cells rule each =
    let n : ℕ = length cells in
    let far : (p : ℕ) → n ≤ p → cell_at (ruled n rule) p ≡ blank = λ p past. past_blank (ruled n rule) p (omega (arith, length-ruled n rule)) in
    record {
      whole = length-ruled n rule;
      closed = λ p shut. elim (cases_lt p n) [
        | inl lt ↦ ap unprotected_unmodified (cell_at-ruled n rule p lt) ∙ (each p lt).closed shut
        | inr past ↦ ap unprotected_unmodified (far p past ∙ sym (past_blank cells p past))
      ];
      open_stays = λ p opens. elim (cases_lt p n) [
        | inl lt ↦ ap is_character (cell_at-ruled n rule p lt) ∙ (each p lt).open_stays opens
        | inr past ↦ ap is_character (far p past)
      ];
    }

pub keeps_same : (cells : List Cell) → Keeps cells cells
keeps_same cells = record { whole = refl; closed = λ p shut. refl; open_stays = λ p opens. (open_parts cells p opens).0 }

-- ---- what follows of kept cells
pub same_kind : (before after : List Cell) (p : ℕ) → Keeps before after → is_attribute (cell_at after p) ≡ is_attribute (cell_at before p)
same_kind before after p k =
    elim (cases_Bool (is_open before p)) [
      | inl opens ↦ not-true _ (k.open_stays p opens) ∙ sym (not-true _ ((open_parts before p opens).0))
      | inr shut ↦ sym (kind_kept (cell_at after p)) ∙ ap is_attribute (k.closed p shut) ∙ kind_kept (cell_at before p)
    ]

least_same : (n : ℕ) (t u : ℕ → Bool) → ((d : ℕ) → t d ≡ u d) → least n t ≡ least n u
unfolding least
least_same zero t u same = refl
least_same (suc n) t u same =
    ap (λ b. cond b (Some 0) (option_map suc (least n (λ d. t (suc d))))) (same 0)
    ∙ ap (λ o. cond (u 0) (Some 0) (option_map suc o)) (least_same n (λ d. t (suc d)) (λ d. u (suc d)) (λ d. same (suc d)))

pub same_before : (before after : List Cell) (p : ℕ) → Keeps before after → attribute_before after p ≡ attribute_before before p
unfolding attribute_before
same_before before after p k =
    ap (λ n. option_map (ring_back n p) (least n (λ d. is_attribute (cell_at after (ring_back n p d))))) k.whole
    ∙ ap (option_map (ring_back (length before) p))
    (least_same (length before) (λ d. is_attribute (cell_at after (ring_back (length before) p d))) (λ d. is_attribute (cell_at before (ring_back (length before) p d)))
    (λ d. same_kind before after (ring_back (length before) p d) k))

pub same_protection : (before after : List Cell) (p : ℕ) → Keeps before after → is_protected (bits_of (cell_at after p)) ≡ is_protected (bits_of (cell_at before p))
same_protection before after p k =
    elim (cases_Bool (is_open before p)) [
      | inl opens ↦ ap is_protected (character_bits (cell_at after p) (not-true _ (k.open_stays p opens)) ∙ sym (character_bits (cell_at before p) (not-true _ ((open_parts before p opens).0))))
      | inr shut ↦ sym (protection_kept (cell_at after p)) ∙ ap (λ x. is_protected (bits_of x)) (k.closed p shut) ∙ protection_kept (cell_at before p)
    ]

protection_at : (before after : List Cell) (o : Option ℕ) → Keeps before after → is_protected (bits_at after o) ≡ is_protected (bits_at before o)
protection_at before after None k = refl
protection_at before after (Some q) k = same_protection before after q k

pub same_open : (before after : List Cell) (p : ℕ) → Keeps before after → is_open after p ≡ is_open before p
same_open before after p k =
    ap (λ t. not t && not (is_protected (bits_at after (attribute_before after p)))) (same_kind before after p k)
    ∙ ap (λ o. is_character (cell_at before p) && not (is_protected (bits_at after o))) (same_before before after p k)
    ∙ ap (λ t. is_character (cell_at before p) && not t) (protection_at before after (attribute_before before p) k)

pub same_governs : (before after : List Cell) (q p : ℕ) → Keeps before after → governs after q p ≡ governs before q p
same_governs before after q p k =
    ap (λ t. not t && is_at (attribute_before after p) q) (same_kind before after p k)
    ∙ ap (λ o. is_character (cell_at before p) && is_at o q) (same_before before after p k)

-- kept twice is kept
pub keeps_on : (first middle last : List Cell) → Keeps first middle → Keeps middle last → Keeps first last
keeps_on first middle last a b =
    record {
      whole = b.whole ∙ a.whole;
      closed = λ p shut. b.closed p (same_open first middle p a ∙ shut) ∙ a.closed p shut;
      open_stays = λ p opens. b.open_stays p (same_open first middle p a ∙ opens);
    }
