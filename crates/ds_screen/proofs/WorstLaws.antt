-- The attributes of the worst picture, one after the other.
use Rattle.std.proofs.Common.{◌≡◌, ℕ, ◌+◌, ◌-◌, ◌<◌, ◌≤◌, ◌&&◌, Bool, true, false, not, cond, eqb, ltb, List, length, map, Option, Some, None, refl, sym, ◌∙◌, ap, subst, arith, inl, inr}
use mathlib.Core.Path.{fun_ext}
use Rattle.std.specs.Option.{option_map}
use Rattle.std.specs.List.{range_with_len, filter, list_all}
use Rattle.std.proofs.lemmas.Bool.{cond-true, cond-false, cases_lt, cases_eq, eq-eqb, ne_eqb, lt-ltb, le-ltb}
use Rattle.ds_codec.specs.declared.cell.Cell.{Cell}
use Rattle.ds_codec.specs.declared.cell.Cell.TheVariants.{Field, Char}
use Rattle.ds_codec.specs.Attribute.{is_protected, with_modified}
use Rattle.ds_places.specs.Nearest.{IsFirstFrom}
use Rattle.ds_screen.specs.declared.mark.Mark.{Mark}
use Rattle.ds_screen.specs.declared.lock.Lock.TheVariants.{Waiting}
use Rattle.ds_screen.specs.Ring.{ring_on, ring_back, least}
use Rattle.ds_screen.specs.Picture.{Picture, IsSound, cell_at, is_real, ruled}
use Rattle.ds_screen.specs.Fields.{is_attribute, attribute_before, is_at, span_of}
use Rattle.ds_screen.specs.Orders.{single_cell, is_unprotected_attribute}
use Rattle.ds_screen.specs.Marks.{place_of, Marked, IsMarked}
use Rattle.ds_screen.specs.Outline.{Outlined, outlined, IsOutlineOf}
use Rattle.ds_screen.specs.Worst.{tagged, begins_input, worst_cell, worst_of}
use Rattle.ds_screen.proofs.RuledLaws.{length-ruled, cell_at-ruled, ruled_same, as_ruled}
use Rattle.ds_screen.proofs.MarkLaws.{first_there, first_never, held_there, past_blank}
use Rattle.ds_screen.proofs.TabLaws.{IsFirst}
use Rattle.ds_screen.proofs.CharacterLaws.{each_real, all_real, ruled_real, either_real}

-- ---- spans, by where attributes stand
before_by : ℕ → (ℕ → Bool) → ℕ → Option ℕ
before_by n test p = option_map (ring_back n p) (least n (λ d. test (ring_back n p d)))

governs_by : ℕ → (ℕ → Bool) → ℕ → ℕ → Bool
governs_by n test q p = not (test p) && is_at (before_by n test p) q

span_by : ℕ → (ℕ → Bool) → ℕ → List ℕ
span_by n test q = filter (governs_by n test q) (map (ring_on n q) (range_with_len 1 (n - 1)))

told_by : (cells : List Cell) (q : ℕ) → span_of cells q ≡ span_by (length cells) (λ p. is_attribute (cell_at cells p)) q
unfolding span_by governs_by before_by span_of attribute_before
told_by cells q = refl

-- cells with attributes at the same positions have the same spans
pub span_same : (cells other : List Cell) (q : ℕ) → length cells ≡ length other → ((p : ℕ) → is_attribute (cell_at cells p) ≡ is_attribute (cell_at other p))
    → span_of cells q ≡ span_of other q
span_same cells other q n same =
    let tests : ◌≡◌ {A = ℕ → Bool} (λ p. is_attribute (cell_at cells p)) (λ p. is_attribute (cell_at other p)) = fun_ext same in
    told_by cells q ∙ ap (λ m. span_by m (λ p. is_attribute (cell_at cells p)) q) n ∙ ap (λ test. span_by (length other) test q) tests ∙ sym (told_by other q)

-- ---- one cell
tagged_kind : (x : Cell) → is_attribute (tagged x) ≡ is_attribute x
tagged_kind (Field bits) = refl
tagged_kind (Char character) = refl

either_kind : (t : Bool) (x : Cell) → is_attribute (cond t (tagged x) x) ≡ is_attribute x
either_kind true x = tagged_kind x
either_kind false x = refl

pub worst_kind : (cells : List Cell) (p : ℕ) → is_attribute (worst_cell cells p) ≡ is_attribute (cell_at cells p)
unfolding worst_cell
worst_kind cells p = either_kind (begins_input cells p) (cell_at cells p)

no_input : (x : Cell) → is_attribute x ≡ false → is_unprotected_attribute x ≡ false
no_input (Field bits) none = absurd cc
no_input (Char character) none = refl

pub worst_character : (cells : List Cell) (p : ℕ) → is_attribute (cell_at cells p) ≡ false → worst_cell cells p ≡ cell_at cells p
unfolding worst_cell
worst_character cells p none =
    cond-false (begins_input cells p) _ _ (ap (λ t. t && ltb 0 (length (span_of cells p))) (no_input (cell_at cells p) none))

-- ---- the walk over the attributes: those below a position are done
abbrev pub worst_below : List Cell → ℕ → ℕ → Cell
worst_below cells from p = cond (ltb p from) (worst_cell cells p) (cell_at cells p)

below_kind : (cells : List Cell) (from p : ℕ) → is_attribute (worst_below cells from p) ≡ is_attribute (cell_at cells p)
below_kind cells from p = both (ltb p from) (worst_cell cells p) (cell_at cells p) (worst_kind cells p)
  where
    both : (t : Bool) (x y : Cell) → is_attribute x ≡ is_attribute y → is_attribute (cond t x y) ≡ is_attribute y
    both true x y same = same
    both false x y same = refl

abbrev pub so_far : List Cell → ℕ → List Cell
so_far cells from = ruled (length cells) (worst_below cells from)

far_kind : (cells : List Cell) (from p : ℕ) → is_attribute (cell_at (so_far cells from) p) ≡ is_attribute (cell_at cells p)
far_kind cells from p =
    elim (cases_lt p (length cells)) [
      | inl lt ↦ ap is_attribute (cell_at-ruled (length cells) (worst_below cells from) p lt) ∙ below_kind cells from p
      | inr past ↦
          ap is_attribute (past_blank (so_far cells from) p (omega (arith, length-ruled (length cells) (worst_below cells from))) ∙ sym (past_blank cells p past))
    ]

ahead_cell : (cells : List Cell) (from p : ℕ) → from ≤ p → p < length cells → cell_at (so_far cells from) p ≡ cell_at cells p
ahead_cell cells from p low lt = cell_at-ruled (length cells) (worst_below cells from) p lt ∙ cond-false (ltb p from) _ _ (le-ltb p from low)

-- none is done at first, all are done at the end
pub none_done : (v : Marked) (cells : List Cell) → IsMarked v cells → IsMarked v (so_far cells 0)
none_done v cells shown =
    subst (IsMarked v) (as_ruled cells (length cells) (worst_below cells 0) refl (λ p lt. sym (cond-false (ltb p 0) _ _ (le-ltb p 0 (omega arith))))) shown

pub all_done : (v : Marked) (cells : List Cell) (from : ℕ) → IsMarked v (so_far cells from) → IsFirstFrom place_of v.marks from None
    → IsMarked v (ruled (length cells) (worst_cell cells))
all_done v cells from shown none =
    subst (IsMarked v) (ruled_same (length cells) (worst_below cells from) (worst_cell cells) (λ p lt. elim (cases_lt p from) [
      | inl done ↦ cond-true (ltb p from) _ _ (lt-ltb p from done)
      | inr ahead ↦
          let here : is_attribute (cell_at (so_far cells from) p) ≡ false = first_never v (so_far cells from) from shown none p ahead (omega (arith, length-ruled (length cells) (worst_below cells from))) in
          cond-false (ltb p from) _ _ (le-ltb p from ahead) ∙ sym (worst_character cells p (sym (far_kind cells from p) ∙ here))
    ])) shown

-- what the next attribute is, and whether it is to be tagged
pub record IsNextInput (cells : List Cell) (from at bits : ℕ) : Type 0 where
  pub low : from ≤ at
  pub inside : at < length cells
  pub here : cell_at cells at ≡ Field bits
  pub between : (p : ℕ) → from ≤ p → p < at → is_attribute (cell_at cells p) ≡ false
  pub span : length (span_of (so_far cells from) at) ≡ length (span_of cells at)

pub next_input : (v : Marked) (cells : List Cell) (from : ℕ) (mark : Mark) → IsMarked v (so_far cells from) → IsFirstFrom place_of v.marks from (Some mark)
    → IsNextInput cells from mark.at mark.attribute
next_input v cells from mark shown found =
    let first : IsFirst is_attribute (so_far cells from) from mark.at = first_there v (so_far cells from) from mark shown found in
    let lt : mark.at < length cells = omega (arith, first.inside, length-ruled (length cells) (worst_below cells from)) in
    record {
      low = first.ahead;
      inside = lt;
      here = sym (ahead_cell cells from mark.at first.ahead lt) ∙ (held_there v (so_far cells from) mark.at mark shown found.1).0;
      between = λ p a b. sym (far_kind cells from p) ∙ first.misses p a b;
      span = ap length (span_same (so_far cells from) cells mark.at (length-ruled (length cells) (worst_below cells from)) (far_kind cells from));
    }

-- one more is done: from the next position on, what the rule says of each position below it
one_more : (cells : List Cell) (from at bits p : ℕ) → IsNextInput cells from at bits → p < length cells → (p ≡ at → ⊥) → worst_below cells (at + 1) p ≡ worst_below cells from p
one_more cells from at bits p next lt apart =
    elim (cases_lt p from) [
      | inl done ↦ cond-true (ltb p (at + 1)) _ _ (lt-ltb p (at + 1) (omega (arith, next.low))) ∙ sym (cond-true (ltb p from) _ _ (lt-ltb p from done))
      | inr ahead ↦ elim (cases_lt p at) [
        | inl before ↦
            cond-true (ltb p (at + 1)) _ _ (lt-ltb p (at + 1) (omega arith)) ∙ worst_character cells p (next.between p ahead before)
            ∙ sym (cond-false (ltb p from) _ _ (le-ltb p from ahead))
        | inr behind ↦
            let past : at + 1 ≤ p = elim (cases_lt at p) [ inl more ↦ omega arith | inr less ↦ let same : p ≡ at = omega arith in absurd (apart same) ] in
            cond-false (ltb p (at + 1)) _ _ (le-ltb p (at + 1) past) ∙ sym (cond-false (ltb p from) _ _ (le-ltb p from ahead))
      ]
    ]

abbrev is_tagged : List Cell → ℕ → ℕ → Bool
is_tagged cells at bits = not (is_protected bits) && ltb 0 (length (span_of cells at))

at_is : (cells : List Cell) (from at bits : ℕ) → IsNextInput cells from at bits → worst_below cells (at + 1) at ≡ cond (is_tagged cells at bits) (Field (with_modified bits true)) (Field bits)
unfolding worst_cell
at_is cells from at bits next =
    cond-true (ltb at (at + 1)) _ _ (lt-ltb at (at + 1) (omega arith))
    ∙ ap (λ x. cond (is_unprotected_attribute x && ltb 0 (length (span_of cells at))) (tagged x) x) next.here

pub skipped : (v : Marked) (cells : List Cell) (from at bits : ℕ) → IsNextInput cells from at bits → is_tagged cells at bits ≡ false → IsMarked v (so_far cells from)
    → IsMarked v (so_far cells (at + 1))
skipped v cells from at bits next shut shown =
    subst (IsMarked v) (ruled_same (length cells) (worst_below cells from) (worst_below cells (at + 1)) (λ p lt. elim (cases_eq p at) [
      | inl same ↦
          ap (worst_below cells from) same ∙ cond-false (ltb at from) _ _ (le-ltb at from next.low) ∙ next.here
          ∙ sym (ap (worst_below cells (at + 1)) same ∙ at_is cells from at bits next ∙ cond-false (is_tagged cells at bits) _ _ shut)
      | inr apart ↦ sym (one_more cells from at bits p next lt apart)
    ])) shown

pub stored : (v : Marked) (cells : List Cell) (from at bits : ℕ) → IsNextInput cells from at bits → is_tagged cells at bits ≡ true
    → IsMarked v (ruled (length (so_far cells from)) (single_cell (so_far cells from) at (Field (with_modified bits true))))
    → IsMarked v (so_far cells (at + 1))
unfolding single_cell
stored v cells from at bits next opens shown =
    let n : length (so_far cells from) ≡ length cells = length-ruled (length cells) (worst_below cells from) in
    subst (IsMarked v)
    (ap (λ m. ruled m (single_cell (so_far cells from) at (Field (with_modified bits true)))) n
    ∙ ruled_same (length cells) (single_cell (so_far cells from) at (Field (with_modified bits true))) (worst_below cells (at + 1)) (λ p lt. elim (cases_eq p at) [
      | inl same ↦
          cond-true (eqb p at) _ _ (eq-eqb p at same)
          ∙ sym (ap (worst_below cells (at + 1)) same ∙ at_is cells from at bits next ∙ cond-true (is_tagged cells at bits) _ _ opens)
      | inr apart ↦
          cond-false (eqb p at) _ _ (ne_eqb p at apart) ∙ cell_at-ruled (length cells) (worst_below cells from) p lt ∙ sym (one_more cells from at bits p next lt apart)
    ])) shown

-- ---- the picture
tagged_real : (x : Cell) → is_real x ≡ true → is_real (tagged x) ≡ true
tagged_real (Field bits) real = refl
tagged_real (Char character) real = real

pub worst_real : (cells : List Cell) → list_all is_real cells ≡ true → list_all is_real (ruled (length cells) (worst_cell cells)) ≡ true
unfolding worst_cell
worst_real cells all =
    let real = each_real cells all in
    all_real (ruled (length cells) (worst_cell cells))
    (ruled_real (length cells) (worst_cell cells) (λ p. either_real (begins_input cells p) (tagged (cell_at cells p)) (cell_at cells p) (tagged_real (cell_at cells p) (real p)) (real p)))

pub worst_sound : (v : Picture) → IsSound v → IsSound (worst_of v)
worst_sound v sound =
    record {
      default_good = sound.default_good;
      alternate_good = sound.alternate_good;
      one_of_two = sound.one_of_two;
      whole = length-ruled (length v.cells) (worst_cell v.cells) ∙ sound.whole;
      cursor_inside = sound.cursor_inside;
      characters = worst_real v.cells sound.characters;
      attention = sound.attention;
    }

pub outlines_worst : (o : Outlined) (v : Picture) (marks : Marked) → IsOutlineOf o v → IsMarked marks (ruled (length v.cells) (worst_cell v.cells))
    → IsOutlineOf (outlined o.geometry o.size marks o.cursor Waiting) (worst_of v)
outlines_worst o v marks is marked =
    record {
      geometry = is.geometry;
      size = is.size;
      marks = marked;
      cursor = is.cursor;
      lock = refl;
      sound = worst_sound v is.sound;
    }
