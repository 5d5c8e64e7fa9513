-- Loops that store cells one after the other.
use Rattle.std.proofs.Common.{◌≡◌, ◌≢◌, ℕ, ◌+◌, ◌-◌, ◌%◌, ◌<◌, ◌≤◌, true, false, cond, eqb, ltb, List, length, set, Some, None, refl, sym, ◌∙◌, ap, arith, inl, inr}
use Rattle.std.specs.Option.{unwrap_or}
use Rattle.std.proofs.lemmas.List.{set-get_or}
use Rattle.std.proofs.lemmas.Bool.{eqb-true, cond-true, cond-false, cases_eq, cases_lt, le-ltb, eq-eqb, ne_eqb}
use Rattle.ds_codec.specs.declared.cell.Cell.{Cell}
use Rattle.ds_codec.specs.declared.cell.Cell.TheVariants.{Field, Char}
use Rattle.ds_codec.specs.Character.{Glyph}
use Rattle.ds_codec.specs.Attribute.{is_modified, with_modified}
use Rattle.ds_screen.specs.Ring.{ring_on, ring_distance, least}
use Rattle.ds_screen.specs.Picture.{Picture, blank, cell_at, ruled}
use Rattle.ds_screen.specs.Fields.{is_attribute, is_at, attribute_before}
use Rattle.ds_screen.proofs.RingLaws.{least_at, least_none, on_cases, distance_ahead}
use Rattle.ds_screen.specs.Orders.{repeated_cell}
use Rattle.ds_screen.proofs.EraseLaws.{repeat_done}
use Rattle.ds_screen.proofs.RuledLaws.{distance_on, as_ruled, cell_at-ruled, length-ruled, set-ruled, walk_step, walk_none}
use Rattle.ds_keys.specs.Moves.{row_end}
use Rattle.ds_keys.specs.KeyStep.{modified, marked_cell, run_end}
use Rattle.ds_keys.specs.Kept.{so_far, moved_back}

abbrev pub with_cells : Picture → List Cell → Picture
with_cells v cells = record v { cells = cells }

-- ---- a step of a loop
pub store_none : (v : Picture) (b : ℕ) (f : ℕ → Cell) → v ≡ with_cells v (ruled (length v.cells) (so_far v.cells b 0 f))
store_none v b f = ap (with_cells v) (walk_none v.cells b f)

pub store_more : (v now new : Picture) (b k at : ℕ) (f : ℕ → Cell) (x : Cell) → b < length v.cells → k < length v.cells → at ≡ ring_on (length v.cells) b k
    → now ≡ with_cells v (ruled (length v.cells) (so_far v.cells b k f)) → f at ≡ x → new ≡ with_cells now (set now.cells at x)
    → new ≡ with_cells v (ruled (length v.cells) (so_far v.cells b (k + 1) f))
store_more v now new b k at f x inside few here stored says writes =
    let before : List Cell = ruled (length v.cells) (so_far v.cells b k f) in
    writes ∙ ap (λ (w : Picture). with_cells w (set w.cells at x)) stored
    ∙ ap (with_cells v) (walk_step v.cells b k at f true x before (set before at x) inside few here refl says refl)

pub length_stored : (v now : Picture) (rule : ℕ → Cell) → now ≡ with_cells v (ruled (length v.cells) rule) → length now.cells ≡ length v.cells
length_stored v now rule stored = ap (λ (w : Picture). length w.cells) stored ∙ length-ruled (length v.cells) rule

-- so many steps, one at least, reach the position that stands as many on, and all where that is where they began
reach_on : (n b k : ℕ) → b < n → 0 < k → k ≤ n → k ≡ cond (eqb b (ring_on n b k)) n (ring_distance n b (ring_on n b k))
reach_on n b k inside some few =
    elim (cases_lt k n) [
      | inl less ↦
          let apart : b ≢ ring_on n b k = elim (on_cases n b k) [ inl a ↦ λ same. absurd (omega arith) | inr a ↦ λ same. absurd (omega arith) ] in
          sym (cond-false (eqb b (ring_on n b k)) _ _ (ne_eqb b (ring_on n b k) apart) ∙ distance_on n b k inside less)
      | inr past ↦
          let whole : k ≡ n = omega arith in
          let same : b ≡ ring_on n b k = elim (on_cases n b k) [ inl a ↦ absurd (omega arith) | inr a ↦ omega arith ] in
          whole ∙ sym (cond-true (eqb b (ring_on n b k)) _ _ (eq-eqb b (ring_on n b k) same))
    ]

-- a character that is repeated up to the position that stands so many on
pub filled_far : (v new : Picture) (b k stop : ℕ) (character : Glyph) → b < length v.cells → 0 < k → k ≤ length v.cells → stop ≡ ring_on (length v.cells) b k
    → new ≡ with_cells v (ruled (length v.cells) (repeated_cell v.cells b stop character))
    → new ≡ with_cells v (ruled (length v.cells) (so_far v.cells b k (λ p. Char character)))
filled_far v new b k stop character inside some few there writes =
    let n : ℕ = length v.cells in
    let steps : k ≡ cond (eqb b stop) n (ring_distance n b stop) =
    reach_on n b k inside some few ∙ ap (λ q. cond (eqb b q) n (ring_distance n b q)) (sym there) in
    writes ∙ sym (ap (with_cells v) (repeat_done v.cells b stop k character inside steps))

-- from b on, not round the end
pub on_from : (n b p : ℕ) → b ≤ p → p < n → p ≡ ring_on n b (p - b)
on_from n b p from lt = elim (on_cases n b (p - b)) [ inl a ↦ omega arith | inr a ↦ omega arith ]

-- ---- the run that Delete moves
pub run_hit : (cells : List Cell) (cols c p : ℕ) → c ≤ p → p < row_end cols c → ((q : ℕ) → c ≤ q → q < p → is_attribute (cell_at cells q) ≡ false)
    → is_attribute (cell_at cells p) ≡ true → p ≡ run_end cells cols c
unfolding run_end
run_hit cells cols c p from lt misses hit =
    let there : c + (p - c) ≡ p = omega arith in
    let found : least (row_end cols c - c) (λ d. is_attribute (cell_at cells (c + d))) ≡ Some (p - c) =
    least_at (row_end cols c - c) (p - c) (λ d. is_attribute (cell_at cells (c + d))) (omega arith)
    (λ d below. misses (c + d) (omega arith) (omega arith)) (ap (λ q. is_attribute (cell_at cells q)) there ∙ hit) in
    sym (ap (λ o. c + unwrap_or o (row_end cols c - c)) found ∙ there)

pub run_miss : (cells : List Cell) (cols c : ℕ) → c ≤ row_end cols c → ((q : ℕ) → c ≤ q → q < row_end cols c → is_attribute (cell_at cells q) ≡ false)
    → row_end cols c ≡ run_end cells cols c
unfolding run_end
run_miss cells cols c from misses =
    let none = least_none (row_end cols c - c) (λ d. is_attribute (cell_at cells (c + d))) (λ d below. misses (c + d) (omega arith) (omega arith)) in
    let whole : c + (row_end cols c - c) ≡ row_end cols c = omega arith in
    sym (ap (λ o. c + unwrap_or o (row_end cols c - c)) none ∙ whole)

pub moved_same : (old now : List Cell) (end p : ℕ) → p < end → (p + 1 < end → cell_at now (p + 1) ≡ cell_at old (p + 1)) → moved_back now end p ≡ moved_back old end p
moved_same old now end p below same =
    elim (cases_eq (p + 1) end) [
      | inl last ↦ cond-true (eqb (p + 1) end) _ _ (eq-eqb (p + 1) end last) ∙ sym (cond-true (eqb (p + 1) end) _ _ (eq-eqb (p + 1) end last))
      | inr more ↦ ap (cond (eqb (p + 1) end) blank) (same (omega arith))
    ]

-- what lies behind the place where a loop stands is as it was
pub still_there : (v now : Picture) (b k p : ℕ) (f : ℕ → Cell) → b + k ≤ p → p < length v.cells → now ≡ with_cells v (ruled (length v.cells) (so_far v.cells b k f))
    → cell_at now.cells p ≡ cell_at v.cells p
still_there v now b k p f behind lt stored =
    ap (λ (w : Picture). cell_at w.cells p) stored ∙ cell_at-ruled (length v.cells) (so_far v.cells b k f) p lt
    ∙ cond-false (ltb (ring_distance (length v.cells) b p) k) _ _ (le-ltb _ _ (omega (arith, distance_ahead (length v.cells) b p (omega arith))))

-- ---- marking
mark_all : (cells : List Cell) → cells ≡ ruled (length cells) (cell_at cells)
mark_all cells = as_ruled cells (length cells) (cell_at cells) refl (λ p lt. refl)

pub mark_none : (cells : List Cell) (c : ℕ) → None ≡ attribute_before cells c → cells ≡ ruled (length cells) (marked_cell cells c)
mark_none cells c none =
    as_ruled cells (length cells) (marked_cell cells c) refl
    (λ p lt. ap (λ o. cond (is_at o p) (modified (cell_at cells p)) (cell_at cells p)) none)

pub mark_some : (cells : List Cell) (c q bits : ℕ) → q < length cells → Some q ≡ attribute_before cells c → cell_at cells q ≡ Field bits
    → set cells q (Field (with_modified bits true)) ≡ ruled (length cells) (marked_cell cells c)
mark_some cells c q bits lt found there =
    ap (λ xs. set xs q (Field (with_modified bits true))) (mark_all cells)
    ∙ set-ruled (length cells) (cell_at cells) (marked_cell cells c) q (Field (with_modified bits true)) lt
    (ap (λ o. cond (is_at o q) (modified (cell_at cells q)) (cell_at cells q)) (sym found)
    ∙ cond-true (eqb q q) _ _ (eq-eqb q q refl) ∙ ap modified there)
    (λ p below apart. ap (λ o. cond (is_at o p) (modified (cell_at cells p)) (cell_at cells p)) (sym found)
    ∙ cond-false (eqb q p) _ _ (ne_eqb q p (λ same. apart (sym same))))

pub mark_kept : (cells : List Cell) (c q bits : ℕ) → q < length cells → Some q ≡ attribute_before cells c → cell_at cells q ≡ Field bits → is_modified bits ≡ true
    → cells ≡ ruled (length cells) (marked_cell cells c)
mark_kept cells c q bits lt found there already =
    let odd : bits % 2 ≡ 1 = eqb-true (bits % 2) 1 already in
    let same : bits ≡ with_modified bits true = omega arith in
    sym (set-get_or cells q blank) ∙ ap (set cells q) (there ∙ ap (λ b. Field b) same) ∙ mark_some cells c q bits lt found there
