-- Room for a character in insert mode.
use Rattle.std.proofs.Common.{◌≡◌, ℕ, zero, suc, ◌+◌, ◌-◌, ◌<◌, ◌≤◌, ◌&&◌, Bool, true, false, not, ltb, leb, List, length, set, Some, None, refl, sym, ◌∙◌, ap, subst, arith, inl, inr}
use Rattle.std.proofs.lemmas.Bool.{cond-true, cond-false, cond_both, cases_Bool, cases_lt, false≢true, and_parts, lt-ltb, le-ltb, lt-leb, le-leb, ltb-true, leb-true}
use Rattle.std.proofs.lemmas.List.{get_or_past}
use Rattle.ds_codec.specs.declared.cell.Cell.{Cell}
use Rattle.ds_codec.specs.Attribute.{is_protected}
use Rattle.ds_screen.specs.Ring.{ring_on, ring_back, ring_distance}
use Rattle.ds_screen.specs.Picture.{Picture, blank, cell_at, ruled}
use Rattle.ds_screen.specs.Fields.{is_attribute, attribute_before, bits_at, is_open}
use Rattle.ds_screen.proofs.RingLaws.{search_cases, least_found, least_at, least_none, on_cases, back_cases, on-zero, on_lt}
use Rattle.ds_screen.proofs.RuledLaws.{cell_at-ruled, length-ruled, ruled_same, walked_cell, walk_none, walk_skips, walk_step, distance_on, on_distance, distance_lt}
use Rattle.ds_screen.proofs.FieldLaws.{before_back, from_found, from_none}
use Rattle.ds_keys.specs.Moves.{row_end}
use Rattle.ds_keys.specs.Laws.{Keeps}
use Rattle.ds_keys.proofs.CellLaws.{CellKeeps, open_parts, open_from_parts, character_keeps, rule_keeps}
use Rattle.ds_strokes.specs.Room.{is_null, rest_up_to, rest_of_field, before_null, shifted_at, shifted_cell, shifted}
use Rattle.ds_strokes.specs.Kept.{AreCharactersOn}

-- ---- the rest of a field holds characters

-- in a buffer without attributes each place holds a character, past the end too
never : (cells : List Cell) (c d : ℕ) → c < length cells → ((e : ℕ) → e < length cells → is_attribute (cell_at cells (ring_on (length cells) c e)) ≡ false)
    → is_attribute (cell_at cells (ring_on (length cells) c d)) ≡ false
never cells c d inside none =
    let n : ℕ = length cells in
    let p : ℕ = ring_on n c d in
    elim (cases_lt p n) [
      | inl lt ↦ ap (λ z. is_attribute (cell_at cells z)) (sym (on_distance n c p inside lt)) ∙ none (ring_distance n c p) (distance_lt n c p inside lt)
      | inr past ↦ ap is_attribute (get_or_past cells p blank past)
    ]

-- positions up to the first attribute from c on
from_rest : (cells : List Cell) (cols c : ℕ) → c < length cells → AreCharactersOn cells c (rest_of_field cells cols c)
from_rest cells cols c inside d below =
    let n : ℕ = length cells in
    elim (search_cases n (λ e. is_attribute (cell_at cells (ring_on n c e)))) [
      | inl found ↦
          let k : ℕ = found.0 in
          let stop = from_found cells n c k (ring_on n c k) refl found.1.inside refl found.1.misses found.1.hit in
          let rest : rest_of_field cells cols c ≡ k = ap (rest_up_to n (row_end cols c) c) (sym stop) ∙ distance_on n c k inside found.1.inside in
          found.1.misses d (subst (λ m. d < m) rest below)
      | inr none ↦ never cells c d inside none
    ]

-- ---- the search for a null

pub null_found : (cells : List Cell) (cols c steps : ℕ) → steps < rest_of_field cells cols c → ((d : ℕ) → d < steps → is_null (cell_at cells (ring_on (length cells) c d)) ≡ false)
    → is_null (cell_at cells (ring_on (length cells) c steps)) ≡ true → before_null cells cols c ≡ Some steps
unfolding before_null
null_found cells cols c steps few misses hit = least_at (rest_of_field cells cols c) steps (λ d. is_null (cell_at cells (ring_on (length cells) c d))) few misses hit

pub null_none : (cells : List Cell) (cols c : ℕ) → ((d : ℕ) → d < rest_of_field cells cols c → is_null (cell_at cells (ring_on (length cells) c d)) ≡ false) → before_null cells cols c ≡ None
unfolding before_null
null_none cells cols c misses = least_none (rest_of_field cells cols c) (λ d. is_null (cell_at cells (ring_on (length cells) c d))) misses

-- a null that was found stands in the rest of the field
pub null_inside : (cells : List Cell) (cols c count : ℕ) → before_null cells cols c ≡ Some count → count < rest_of_field cells cols c
unfolding before_null
null_inside cells cols c count found =
    let test : ℕ → Bool = λ d. is_null (cell_at cells (ring_on (length cells) c d)) in
    elim (search_cases (rest_of_field cells cols c) test) [
      | inl hit ↦ let same : Some hit.0 ≡ Some count = sym (least_found (rest_of_field cells cols c) test hit.0 hit.1) ∙ found in
          let e : hit.0 ≡ count = cc in subst (λ k. k < rest_of_field cells cols c) e hit.1.inside
      | inr none ↦ let both : None ≡ Some count = sym (least_none (rest_of_field cells cols c) test none) ∙ found in absurd (none_some count both)
    ]
  where
    none_some : (k : ℕ) → None ≡ Some k → ⊥
    none_some k e = cc

-- the characters from c on, as far as the null, stand in the rest
pub null_characters : (cells : List Cell) (cols c count : ℕ) → c < length cells → before_null cells cols c ≡ Some count → AreCharactersOn cells c (count + 1)
null_characters cells cols c count inside found d below = from_rest cells cols c inside d (omega (arith, null_inside cells cols c count found))

rest_few : (cells : List Cell) (cols c : ℕ) → c < length cells → row_end cols c ≤ length cells → rest_of_field cells cols c ≤ length cells
rest_few cells cols c inside row =
    let n : ℕ = length cells in
    elim (search_cases n (λ e. is_attribute (cell_at cells (ring_on n c e)))) [
      | inl found ↦
          let stop = from_found cells n c found.0 (ring_on n c found.0) refl found.1.inside refl found.1.misses found.1.hit in
          let rest : rest_of_field cells cols c ≡ found.0 = ap (rest_up_to n (row_end cols c) c) (sym stop) ∙ distance_on n c found.0 inside found.1.inside in
          omega (arith, rest, found.1.inside)
      | inr none ↦
          let rest : rest_of_field cells cols c ≡ row_end cols c - c = ap (rest_up_to n (row_end cols c) c) (sym (from_none cells n c refl none)) in
          omega (arith, rest, row)
    ]

pub null_few : (cells : List Cell) (cols c count : ℕ) → c < length cells → row_end cols c ≤ length cells → before_null cells cols c ≡ Some count → count < length cells
null_few cells cols c count inside row found = omega (arith, null_inside cells cols c count found, rest_few cells cols c inside row)

-- ---- the shift, step by step
abbrev pub with_cells : Picture → List Cell → Picture
with_cells v cells = record v { cells = cells }

abbrev pub so_far : Picture → ℕ → ℕ → Picture
so_far v count k = with_cells v (ruled (length v.cells) (walked_cell v.cells v.cursor k (shifted_cell v.cells v.cursor count)))

shifted_first : (cells : List Cell) (c count : ℕ) → c < length cells → shifted_cell cells c count (ring_on (length cells) c 0) ≡ cell_at cells (ring_on (length cells) c 0)
unfolding shifted_cell
shifted_first cells c count inside = ap (λ d. shifted_at cells c count d (ring_on (length cells) c 0)) (distance_on (length cells) c 0 inside (omega arith))

shifted_next : (cells : List Cell) (c count k : ℕ) → c < length cells → k + 1 < length cells → k < count
    → shifted_cell cells c count (ring_on (length cells) c (k + 1)) ≡ cell_at cells (ring_on (length cells) c k)
unfolding shifted_cell
shifted_next cells c count k inside few below =
    let n : ℕ = length cells in
    let p : ℕ = ring_on n c (k + 1) in
    ap (λ d. shifted_at cells c count d p) (distance_on n c (k + 1) inside few)
    ∙ cond-true (ltb 0 (k + 1) && leb (k + 1) count) _ _ (rw (lt-ltb 0 (k + 1) (omega arith)) (le-leb (k + 1) count (omega arith)))
    ∙ ap (λ d. cell_at cells (ring_on n c d)) (let e : k + 1 - 1 ≡ k = omega arith in e)

pub shift_begins : (v : Picture) (count : ℕ) → v.cursor < length v.cells → v ≡ so_far v count 1
shift_begins v count inside =
    ap (with_cells v) (walk_none v.cells v.cursor (shifted_cell v.cells v.cursor count)
    ∙ walk_skips v.cells v.cursor 0 (shifted_cell v.cells v.cursor count) inside (omega arith) (shifted_first v.cells v.cursor count inside))

pub shift_more : (v now new : Picture) (count k at : ℕ) (x : Cell) → v.cursor < length v.cells → k + 1 < length v.cells → k < count → at ≡ ring_on (length v.cells) v.cursor (k + 1)
    → now ≡ so_far v count (k + 1) → x ≡ cell_at v.cells (ring_on (length v.cells) v.cursor k) → new ≡ with_cells now (set now.cells at x) → new ≡ so_far v count (k + 1 + 1)
shift_more v now new count k at x inside few below here stored carried writes =
    let n : ℕ = length v.cells in
    let f : ℕ → Cell = shifted_cell v.cells v.cursor count in
    let before : List Cell = ruled n (walked_cell v.cells v.cursor (k + 1) f) in
    let says : f at ≡ x = ap f here ∙ shifted_next v.cells v.cursor count k inside few below ∙ sym carried in
    writes ∙ ap (λ (w : Picture). with_cells w (set w.cells at x)) stored
    ∙ ap (with_cells v) (walk_step v.cells v.cursor (k + 1) at f true x before (set before at x) inside few here refl says refl)

-- the cells behind the place where the walk stands are as they were
pub shift_sees : (v now : Picture) (count k at : ℕ) → v.cursor < length v.cells → k + 1 < length v.cells → at ≡ ring_on (length v.cells) v.cursor (k + 1)
    → now ≡ so_far v count (k + 1) → cell_at now.cells at ≡ cell_at v.cells at
shift_sees v now count k at inside few here stored =
    let n : ℕ = length v.cells in
    let lt : at < n = subst (λ z. z < n) (sym here) (on_lt n v.cursor (k + 1) inside (omega arith)) in
    let far : ring_distance n v.cursor at ≡ k + 1 = ap (ring_distance n v.cursor) here ∙ distance_on n v.cursor (k + 1) inside few in
    ap (λ (w : Picture). cell_at w.cells at) stored ∙ cell_at-ruled n (walked_cell v.cells v.cursor (k + 1) (shifted_cell v.cells v.cursor count)) at lt
    ∙ cond-false (ltb (ring_distance n v.cursor at) (k + 1)) _ _ (le-ltb _ _ (omega (arith, far)))

pub length_so_far : (v now : Picture) (count k : ℕ) → now ≡ so_far v count k → length now.cells ≡ length v.cells
length_so_far v now count k stored =
    ap (λ (w : Picture). length w.cells) stored ∙ length-ruled (length v.cells) (walked_cell v.cells v.cursor k (shifted_cell v.cells v.cursor count))

shifted_past : (cells : List Cell) (c count p : ℕ) → count < ring_distance (length cells) c p → shifted_cell cells c count p ≡ cell_at cells p
unfolding shifted_cell
shifted_past cells c count p far =
    cond-false (ltb 0 (ring_distance (length cells) c p) && leb (ring_distance (length cells) c p) count) _ _
    (rw (lt-leb (ring_distance (length cells) c p) count far) (no (ltb 0 (ring_distance (length cells) c p))))
  where
    no : (t : Bool) → (t && false) ≡ false
    no true = refl
    no false = refl

pub shift_ends : (v now : Picture) (count k : ℕ) → k ≡ count + 1 → now ≡ so_far v count k → now ≡ shifted v count
shift_ends v now count k whole stored =
    let n : ℕ = length v.cells in
    let f : ℕ → Cell = shifted_cell v.cells v.cursor count in
    stored ∙ ap (so_far v count) whole
    ∙ ap (with_cells v) (ruled_same n (walked_cell v.cells v.cursor (count + 1) f) f
    (λ p lt. elim (cases_lt (ring_distance n v.cursor p) (count + 1)) [
      | inl near ↦ cond-true (ltb (ring_distance n v.cursor p) (count + 1)) _ _ (lt-ltb _ _ near)
      | inr far ↦ cond-false (ltb (ring_distance n v.cursor p) (count + 1)) _ _ (le-ltb _ _ far) ∙ sym (shifted_past v.cells v.cursor count p (omega arith))
    ]))

-- ---- the shift keeps what is protected

-- from an open character on, over characters, round the ring: each is open
on_open : (cells : List Cell) (c d : ℕ) → c < length cells → d < length cells → is_open cells c ≡ true → AreCharactersOn cells c (d + 1)
    → attribute_before cells (ring_on (length cells) c d) ≡ attribute_before cells c
on_open cells c zero inside few opens characters = ap (attribute_before cells) (on-zero (length cells) c inside)
on_open cells c (suc d) inside few opens characters =
    let n : ℕ = length cells in
    let here : ring_back n (ring_on n c (suc d)) 1 ≡ ring_on n c d = step_back n c d inside few in
    before_back cells (ring_on n c (suc d)) (on_lt n c (suc d) inside (omega arith)) (characters (suc d) (omega arith)) ∙ ap (attribute_before cells) here
    ∙ on_open cells c d inside (omega arith) opens (λ e below. characters e (omega arith))
  where
    step_back : (n c d : ℕ) → c < n → suc d < n → ring_back n (ring_on n c (suc d)) 1 ≡ ring_on n c d
    step_back n c d inside few =
        elim (on_cases n c (suc d)) [
          | inl a ↦ elim (on_cases n c d) [
            | inl b ↦ elim (back_cases n (ring_on n c (suc d)) 1) [ inl e ↦ omega arith | inr e ↦ omega arith ]
            | inr b ↦ elim (back_cases n (ring_on n c (suc d)) 1) [ inl e ↦ omega arith | inr e ↦ omega arith ]
          ]
          | inr a ↦ elim (on_cases n c d) [
            | inl b ↦ elim (back_cases n (ring_on n c (suc d)) 1) [ inl e ↦ omega arith | inr e ↦ omega arith ]
            | inr b ↦ elim (back_cases n (ring_on n c (suc d)) 1) [ inl e ↦ omega arith | inr e ↦ omega arith ]
          ]
        ]

stretch_open : (cells : List Cell) (c d : ℕ) → c < length cells → d < length cells → is_open cells c ≡ true → AreCharactersOn cells c (d + 1)
    → is_open cells (ring_on (length cells) c d) ≡ true
stretch_open cells c d inside few opens characters =
    open_from_parts cells (ring_on (length cells) c d) (ap not (characters d (omega arith)))
    (ap (λ o. is_protected (bits_at cells o)) (on_open cells c d inside few opens characters) ∙ (open_parts cells c opens).1)

-- a position that takes the character of the one before it is open
shifted_each : (cells : List Cell) (c count p : ℕ) → c < length cells → is_open cells c ≡ true → AreCharactersOn cells c (count + 1) → p < length cells
    → CellKeeps (is_open cells p) (cell_at cells p) (shifted_cell cells c count p)
unfolding shifted_cell
shifted_each cells c count p inside opens characters lt =
    let n : ℕ = length cells in
    let steps : ℕ = ring_distance n c p in
    let few : steps < n = distance_lt n c p inside lt in
    cond_both (ltb 0 steps && leb steps count) (cell_at cells (ring_on n c (steps - 1))) (cell_at cells p) (λ x. CellKeeps (is_open cells p) (cell_at cells p) x)
    (λ within.
    let parts = and_parts (ltb 0 steps) (leb steps count) within in
    let near : steps ≤ count = leb-true steps count parts.1 in
    let some : 0 < steps = ltb-true 0 steps parts.0 in
    let open_here : is_open cells p ≡ true =
    ap (is_open cells) (sym (on_distance n c p inside lt)) ∙ stretch_open cells c steps inside few opens (λ d below. characters d (omega arith)) in
    character_keeps (is_open cells p) (cell_at cells p) (cell_at cells (ring_on n c (steps - 1))) open_here (ap not (characters (steps - 1) (omega arith))))
    (λ apart. record { closed = λ shut. refl; open_stays = λ here. (open_parts cells p here).0 })

pub shifted_keeps : (v : Picture) (count : ℕ) → v.cursor < length v.cells → is_open v.cells v.cursor ≡ true → AreCharactersOn v.cells v.cursor (count + 1)
    → Keeps v.cells (shifted v count).cells
shifted_keeps v count inside opens characters =
    rule_keeps v.cells (shifted_cell v.cells v.cursor count) (λ p lt. shifted_each v.cells v.cursor count p inside opens characters lt)

-- an attribute stays as it is
pub shifted_attribute : (v : Picture) (count q : ℕ) → v.cursor < length v.cells → AreCharactersOn v.cells v.cursor (count + 1) → q < length v.cells
    → is_attribute (cell_at v.cells q) ≡ true → cell_at (shifted v count).cells q ≡ cell_at v.cells q
unfolding shifted_cell
shifted_attribute v count q inside characters lt there =
    let n : ℕ = length v.cells in
    let steps : ℕ = ring_distance n v.cursor q in
    cell_at-ruled n (shifted_cell v.cells v.cursor count) q lt
    ∙ elim (cases_Bool (ltb 0 steps && leb steps count)) [
      | inl within ↦
          let parts = and_parts (ltb 0 steps) (leb steps count) within in
          let near : steps ≤ count = leb-true steps count parts.1 in
          absurd (false≢true (sym (characters steps (omega arith)) ∙ ap (λ z. is_attribute (cell_at v.cells z)) (on_distance n v.cursor q inside lt) ∙ there))
      | inr apart ↦ cond-false (ltb 0 steps && leb steps count) _ _ apart
    ]
