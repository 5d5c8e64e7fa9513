-- The fields of a list of attributes are those of the cells.
use Rattle.std.proofs.Common.{◌≡◌, ℕ, zero, suc, ◌+◌, ◌-◌, ◌<◌, ◌≤◌, ◌&&◌, Bool, true, false, not, eqb, List, [], ◌∷◌, length, map, Option, Some, None, refl, sym, ◌∙◌, ap, arith, inl, inr}
use mathlib.Core.Path.{fun_ext}
use Rattle.std.specs.Option.{option_map}
use Rattle.std.specs.List.{range_with_len, filter}
use Rattle.std.proofs.lemmas.Bool.{cond-true, cond-false, cases_lt, cases_Bool, eqb-true}
use Rattle.ds_codec.specs.declared.cell.Cell.{Cell}
use Rattle.ds_codec.specs.declared.cell.Cell.TheVariants.{Field, Char}
use Rattle.ds_places.specs.Places.{at_place, IsWithin}
use Rattle.ds_places.specs.Nearest.{IsFirstFrom}
use Rattle.ds_screen.specs.declared.mark.Mark.{Mark}
use Rattle.ds_screen.specs.declared.field.FieldAt.{FieldAt}
use Rattle.ds_screen.specs.Ring.{ring_on, ring_back, least}
use Rattle.ds_screen.specs.Picture.{cell_at, ruled}
use Rattle.ds_screen.specs.Fields.{is_attribute, bits_of, attribute_before, attribute_from, is_at, span_of, field_at, attributes_from, fields_of}
use Rattle.ds_screen.specs.Marks.{place_of, mark_of, Marked, IsMarked, cell_held, bare_cells}
use Rattle.ds_screen.proofs.RingLaws.{on_inside, on_round, on_cases}
use Rattle.ds_screen.proofs.FieldLaws.{from_found, from_none}
use Rattle.ds_screen.proofs.RuledLaws.{length-ruled, cell_at-ruled}
use Rattle.ds_screen.proofs.SpanLaws.{attributes_here, attributes_skip}
use Rattle.ds_screen.proofs.MarkLaws.{none_there, first_there, past_blank, within_of}

-- ---- the barest cells
at_is : (xs : List Mark) (p : ℕ) (mark : Mark) → at_place place_of xs p ≡ Some mark → mark.at ≡ p
at_is [] p mark is = absurd cc
at_is (x ∷ xs) p mark is =
    elim (cases_Bool (eqb x.at p)) [
      | inl same ↦
          let e : Some x ≡ Some mark = sym (cond-true (eqb x.at p) (Some x) (at_place place_of xs p) same) ∙ is in
          sym (ap (λ (m : Mark). m.at) (some_same x mark e)) ∙ eqb-true x.at p same
      | inr apart ↦ at_is xs p mark (sym (cond-false (eqb x.at p) (Some x) (at_place place_of xs p) apart) ∙ is)
    ]
  where
    some_same : (a b : Mark) → Some a ≡ Some b → a ≡ b
    some_same a b e = cc

pub bare_marked : (v : Marked) → IsWithin place_of v.size v.marks → IsMarked v (bare_cells v)
unfolding bare_cells
bare_marked v within =
    record {
      sized = length-ruled v.size (λ p. cell_held (at_place place_of v.marks p));
      each = λ p. elim (cases_lt p v.size) [
        | inl lt ↦
            told p (at_place place_of v.marks p) (λ mark is. at_is v.marks p mark is)
            ∙ ap (mark_of p) (sym (cell_at-ruled v.size (λ q. cell_held (at_place place_of v.marks q)) p lt))
        | inr far ↦
            within p far
            ∙ ap (mark_of p) (sym (past_blank (ruled v.size (λ q. cell_held (at_place place_of v.marks q))) p (omega (arith, length-ruled v.size (λ q. cell_held (at_place place_of v.marks q))))))
      ];
    }
  where
    told : (p : ℕ) (o : Option Mark) → ((mark : Mark) → o ≡ Some mark → mark.at ≡ p) → o ≡ mark_of p (cell_held o)
    told p None here = refl
    told p (Some mark) here = ap (λ q. Some (let m : Mark = record { at = q; attribute = mark.attribute } in m)) (here mark refl)

-- ---- the next attribute round the buffer
pub stop_ahead : (v : Marked) (cells : List Cell) (place : ℕ) (mark : Mark) → IsMarked v cells → IsFirstFrom place_of v.marks place (Some mark)
    → Some mark.at ≡ attribute_from cells place
stop_ahead v cells place mark marked found =
    let n : ℕ = length cells in
    let first = first_there v cells place mark marked found in
    let here : mark.at ≡ ring_on n place (mark.at - place) =
    let there : place + (mark.at - place) ≡ mark.at = omega (arith, first.ahead) in
    sym (on_inside n place (mark.at - place) (omega (arith, first.inside)) ∙ there) in
    from_found cells n place (mark.at - place) mark.at refl (omega (arith, first.inside)) here
    (λ e few. ap (λ q. is_attribute (cell_at cells q)) (on_inside n place e (omega (arith, first.inside))) ∙ first.misses (place + e) (omega arith) (omega arith))
    first.hit

pub stop_round : (v : Marked) (cells : List Cell) (place : ℕ) (mark : Mark) → IsMarked v cells → place < v.size → IsFirstFrom place_of v.marks place None → IsFirstFrom place_of v.marks 0 (Some mark)
    → Some mark.at ≡ attribute_from cells place
stop_round v cells place mark marked inside none found =
    let n : ℕ = length cells in
    let lt : place < n = omega (arith, marked.sized) in
    let first = first_there v cells 0 mark marked found in
    let before : mark.at < place = elim (cases_lt mark.at place) [
      | inl less ↦ less
      | inr more ↦ let e = sym (none mark.at more) ∙ found.1 in absurd cc
    ] in
    let d : ℕ = n - place + mark.at in
    let here : mark.at ≡ ring_on n place d =
    let there : place + d - n ≡ mark.at = omega arith in
    sym (on_round n place d (omega arith) ∙ there) in
    from_found cells n place d mark.at refl (omega arith) here
    (λ e few. elim (on_cases n place e) [
      | inl a ↦ ap (λ q. is_attribute (cell_at cells q)) a.1 ∙ none_there v cells (place + e) marked (none (place + e) (omega arith))
      | inr a ↦ ap (λ q. is_attribute (cell_at cells q)) a.1 ∙ first.misses (place + e - n) (omega arith) (omega arith)
    ])
    first.hit

-- from behind a position, where the first attribute behind it is known
pub stop_later : (v : Marked) (cells : List Cell) (at : ℕ) (mark : Mark) → IsMarked v cells → IsFirstFrom place_of v.marks (at + 1) (Some mark)
    → Some mark.at ≡ attribute_from cells (ring_on (length cells) at 1)
stop_later v cells at mark marked found =
    let first = first_there v cells (at + 1) mark marked found in
    stop_ahead v cells (at + 1) mark marked found ∙ ap (attribute_from cells) (sym (on_inside (length cells) at 1 (omega (arith, first.ahead, first.inside))))

pub stop_behind : (v : Marked) (cells : List Cell) (at : ℕ) (mark : Mark) → IsMarked v cells → at < v.size → IsFirstFrom place_of v.marks (at + 1) None → IsFirstFrom place_of v.marks 0 (Some mark)
    → Some mark.at ≡ attribute_from cells (ring_on (length cells) at 1)
stop_behind v cells at mark marked inside none found =
    elim (cases_lt (at + 1) v.size) [
      | inl lt ↦ stop_round v cells (at + 1) mark marked lt none found ∙ ap (attribute_from cells) (sym (on_inside (length cells) at 1 (omega (arith, lt, marked.sized))))
      | inr last ↦
          let begun : at + 1 - length cells ≡ 0 = omega (arith, inside, last, marked.sized) in
          stop_ahead v cells 0 mark marked found
          ∙ ap (attribute_from cells) (sym (on_round (length cells) at 1 (omega (arith, inside, last, marked.sized)) ∙ begun))
    ]

pub stop_never : (v : Marked) (cells : List Cell) (place : ℕ) → IsMarked v cells → IsFirstFrom place_of v.marks 0 None → None ≡ attribute_from cells place
stop_never v cells place marked none =
    from_none cells (length cells) place refl (λ e few. none_there v cells (ring_on (length cells) place e) marked (none (ring_on (length cells) place e) (omega arith)))

-- ---- the attributes from a position on
skip_run : (cells : List Cell) (from d : ℕ) → from + d ≤ length cells → ((q : ℕ) → from ≤ q → q < from + d → is_attribute (cell_at cells q) ≡ false)
    → attributes_from cells from ≡ attributes_from cells (from + d)
skip_run cells from zero inside misses = ap (attributes_from cells) (omega arith)
skip_run cells from (suc d) inside misses =
    let more : from + 1 + d ≡ from + suc d = omega arith in
    attributes_skip cells from (omega arith) (misses from (omega arith) (omega arith))
    ∙ skip_run cells (from + 1) d (omega arith) (λ q low high. misses q (omega arith) (omega arith)) ∙ ap (attributes_from cells) more

pub attributes_none : (cells : List Cell) (from : ℕ) → ((q : ℕ) → from ≤ q → q < length cells → is_attribute (cell_at cells q) ≡ false) → attributes_from cells from ≡ []
attributes_none cells from misses =
    elim (cases_lt from (length cells)) [
      | inl lt ↦
          let end : from + (length cells - from) ≡ length cells = omega arith in
          skip_run cells from (length cells - from) (omega arith) (λ q low high. misses q low (omega arith)) ∙ ap (attributes_from cells) end ∙ past (length cells) (omega arith)
      | inr far ↦ past from far
    ]
  where
    past : (p : ℕ) → length cells ≤ p → attributes_from cells p ≡ []
    past p far =
        let none : length cells - p ≡ 0 = omega arith in
        ap (λ k. filter (λ q. is_attribute (cell_at cells q)) (range_with_len p k)) none

pub attributes_first : (cells : List Cell) (from at : ℕ) → from ≤ at → at < length cells → ((q : ℕ) → from ≤ q → q < at → is_attribute (cell_at cells q) ≡ false)
    → is_attribute (cell_at cells at) ≡ true → attributes_from cells from ≡ at ∷ attributes_from cells (at + 1)
attributes_first cells from at low inside misses hit =
    let there : from + (at - from) ≡ at = omega arith in
    skip_run cells from (at - from) (omega arith) (λ q a b. misses q a (omega arith)) ∙ ap (attributes_from cells) there ∙ attributes_here cells at inside hit

-- ---- the same fields of whatever cells have these attributes
parts_same : (p : ℕ) (a b : Cell) → mark_of p a ≡ mark_of p b → (is_attribute a ≡ is_attribute b) × (bits_of a ≡ bits_of b)
parts_same p (Field x) (Field y) e =
    let same : ◌≡◌ {A = Mark} (record { at = p; attribute = x }) (record { at = p; attribute = y }) = some_same _ _ e in
    (refl, ap (λ (m : Mark). m.attribute) same)
  where
    some_same : (m n : Mark) → Some m ≡ Some n → m ≡ n
    some_same m n e = cc
parts_same p (Field x) (Char d) e = absurd cc
parts_same p (Char c) (Field y) e = absurd cc
parts_same p (Char c) (Char d) e = (refl, refl)

-- a buffer's fields, by its length, where attributes stand, and their bits
before_by : ℕ → (ℕ → Bool) → ℕ → Option ℕ
before_by n test p = option_map (ring_back n p) (least n (λ d. test (ring_back n p d)))

governs_by : ℕ → (ℕ → Bool) → ℕ → ℕ → Bool
governs_by n test q p = not (test p) && is_at (before_by n test p) q

field_by : ℕ → (ℕ → Bool) → (ℕ → ℕ) → ℕ → FieldAt
field_by n test bits q =
    record {
      at = q;
      attr = bits q;
      place = ring_on n q 1;
      length = length (filter (governs_by n test q) (map (ring_on n q) (range_with_len 1 (n - 1))));
    }

fields_by : ℕ → (ℕ → Bool) → (ℕ → ℕ) → List FieldAt
fields_by n test bits = map (field_by n test bits) (filter test (range_with_len 0 (n - 0)))

told_by : (cells : List Cell) → fields_of cells ≡ fields_by (length cells) (λ p. is_attribute (cell_at cells p)) (λ p. bits_of (cell_at cells p))
unfolding fields_by field_by governs_by before_by span_of attribute_before
told_by cells = refl

pub fields_same : (v : Marked) (cells other : List Cell) → IsMarked v cells → IsMarked v other → fields_of cells ≡ fields_of other
fields_same v cells other one two =
    let n : length cells ≡ length other = one.sized ∙ sym two.sized in
    let both : (p : ℕ) → (is_attribute (cell_at cells p) ≡ is_attribute (cell_at other p)) × (bits_of (cell_at cells p) ≡ bits_of (cell_at other p)) =
    λ p. parts_same p (cell_at cells p) (cell_at other p) (sym (one.each p) ∙ two.each p) in
    let tests : ◌≡◌ {A = ℕ → Bool} (λ p. is_attribute (cell_at cells p)) (λ p. is_attribute (cell_at other p)) = fun_ext (λ p. (both p).0) in
    let bits : ◌≡◌ {A = ℕ → ℕ} (λ p. bits_of (cell_at cells p)) (λ p. bits_of (cell_at other p)) = fun_ext (λ p. (both p).1) in
    told_by cells ∙ ap (λ m. fields_by m (λ p. is_attribute (cell_at cells p)) (λ p. bits_of (cell_at cells p))) n
    ∙ ap (λ test. fields_by (length other) test (λ p. bits_of (cell_at cells p))) tests
    ∙ ap (fields_by (length other) (λ p. is_attribute (cell_at other p))) bits ∙ sym (told_by other)

-- whatever cells it stands for, the fields are those of the barest ones
pub bare_fields : (v : Marked) (cells : List Cell) → IsMarked v cells → fields_of (bare_cells v) ≡ fields_of cells
bare_fields v cells marked = fields_same v (bare_cells v) cells (bare_marked v (within_of v cells marked)) marked

pub field_made : (cells : List Cell) (mark : Mark) (place long : ℕ) → cell_at cells mark.at ≡ Field mark.attribute → place ≡ ring_on (length cells) mark.at 1
    → long ≡ length (span_of cells mark.at)
    → ◌≡◌ {A = FieldAt} (record { at = mark.at; attr = mark.attribute; place = place; length = long }) (field_at cells mark.at)
field_made cells mark place long there after counts =
    ap (λ a. let f : FieldAt = record { at = mark.at; attr = a; place = place; length = long } in f) (sym (ap bits_of there))
    ∙ ap (λ p. let f : FieldAt = record { at = mark.at; attr = bits_of (cell_at cells mark.at); place = p; length = long } in f) after
    ∙ ap (λ k. let f : FieldAt = record { at = mark.at; attr = bits_of (cell_at cells mark.at); place = ring_on (length cells) mark.at 1; length = k } in f) counts
