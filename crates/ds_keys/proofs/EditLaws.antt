-- The keys that change the field that the cursor stands in.
use Rattle.std.proofs.Common.{◌≡◌, ℕ, ◌+◌, ◌-◌, ◌<◌, ◌≤◌, ◌&&◌, ◌||◌, Bool, true, false, ◌==◌, cond, eqb, ltb, leb, List, length, set, refl, sym, ◌∙◌, ap, arith, inl, inr}
use Rattle.std.specs.List.{list_any}
use Rattle.std.proofs.lemmas.Bool.{cond-true, cond-false, cases_eq, cases_lt, le-leb, lt-leb, lt-ltb, le-ltb, eq-eqb, ne_eqb, and_parts, leb-true}
use Rattle.ds_codec.specs.declared.cell.Cell.{Cell}
use Rattle.ds_codec.specs.declared.cell.Cell.TheVariants.{Field, Char}
use Rattle.ds_codec.specs.Character.{Glyph, glyph, stored_controls, is_text, is_graphic}
use Rattle.ds_screen.specs.Ring.{ring_on, ring_distance}
use Rattle.ds_screen.specs.Picture.{Picture, blank, cell_at, ruled}
use Rattle.ds_screen.specs.Fields.{is_attribute, is_at, attribute_before, attribute_from, is_open, is_open_under, ruling_bits}
use Rattle.ds_screen.proofs.RingLaws.{distance_cases}
use Rattle.ds_screen.proofs.RuledLaws.{ruled_same, cell_at-ruled, length-ruled, set-ruled}
use Rattle.ds_keys.specs.declared.pressed.Pressed.{Pressed}
use Rattle.ds_keys.specs.declared.pressed.Pressed.TheVariants.{Done, Ignored}
use Rattle.ds_keys.specs.Moves.{settled}
use Rattle.ds_keys.specs.KeyStep.{step, inhibited, modified, marked_cell, typed_cell, is_in_rest, end_erased_cell, run_end, deleted_cell, typed_step, erase_eof_step, delete_step}
use Rattle.ds_keys.specs.Kept.{so_far, steps_to, moved_back, AreCharacters}
use Rattle.ds_keys.proofs.RunLaws.{with_cells}
use Rattle.ds_keys.proofs.RestLaws.{rest_law}

-- ---- open characters
open_kind : (bits : ℕ) (x : Cell) → is_open_under bits x ≡ true → is_attribute x ≡ false
open_kind bits (Field attribute) is = absurd cc
open_kind bits (Char character) is = refl

pub open_character : (cells : List Cell) (p : ℕ) → is_open cells p ≡ true → is_attribute (cell_at cells p) ≡ false
open_character cells p is = open_kind (ruling_bits cells p) (cell_at cells p) is

modified_character : (x : Cell) → is_attribute x ≡ false → modified x ≡ x
modified_character (Field attribute) none = absurd cc
modified_character (Char character) none = refl

cond_same : (t : Bool) (x y : Cell) → x ≡ y → cond t x y ≡ y
cond_same true x y e = e
cond_same false x y e = refl

pub marked_character : (cells : List Cell) (c p : ℕ) → is_attribute (cell_at cells p) ≡ false → marked_cell cells c p ≡ cell_at cells p
marked_character cells c p none = cond_same (is_at (attribute_before cells c) p) (modified (cell_at cells p)) (cell_at cells p) (modified_character (cell_at cells p) none)

-- ---- Typed
either_so : (a b t : Bool) → a ≡ true → b ≡ true → ((a && b) || t) ≡ true
either_so true true t p q = refl
either_so true false t p q = absurd cc
either_so false b t p q = absurd cc

pub graphic_text : (code : ℕ) → is_graphic code ≡ true → is_text code ≡ true
unfolding is_text
graphic_text code is =
    let parts = and_parts (leb 0x40 code) (leb code 0xFE) is in
    let high : leb code 0xFF ≡ true = le-leb code 0xFF (omega (arith, leb-true code 0xFE parts.1)) in
    either_so (leb 0x40 code) (leb code 0xFF) (list_any (λ control. control == code) stored_controls) parts.0 high

pub is_ignored : (v : Picture) (code : ℕ) → is_graphic code ≡ false → step v Ignored ≡ typed_step v code
unfolding typed_step
is_ignored v code none = sym (cond-false (is_graphic code) _ _ none)

pub typed_inhibited : (v after : Picture) (pressed : Pressed) (code cursor : ℕ) → is_graphic code ≡ true → cursor ≡ v.cursor → is_open v.cells cursor ≡ false
    → step after pressed ≡ inhibited v → step after pressed ≡ typed_step v code
unfolding typed_step
typed_inhibited v after pressed code cursor is at shut says =
    says ∙ sym (cond-true (is_graphic code) _ _ is ∙ cond-false (is_open v.cells v.cursor) _ _ (ap (is_open v.cells) (sym at) ∙ shut))

typed_cells : (cells : List Cell) (c code : ℕ) (ch : Glyph) → c < length cells → ch ≡ glyph code false
    → set (ruled (length cells) (marked_cell cells c)) c (Char ch) ≡ ruled (length cells) (typed_cell cells c code)
unfolding typed_cell
typed_cells cells c code ch inside is =
    set-ruled (length cells) (marked_cell cells c) (typed_cell cells c code) c (Char ch) inside
    (cond-true (eqb c c) _ _ (eq-eqb c c refl) ∙ sym (ap (λ x. Char x) is))
    (λ p lt apart. cond-false (eqb p c) _ _ (ne_eqb p c apart))

pub typed_done : (v v1 v2 v3 : Picture) (code cursor next : ℕ) (ch : Glyph) → is_graphic code ≡ true → cursor ≡ v.cursor → is_open v.cells cursor ≡ true
    → cursor < length v.cells → next ≡ settled v.cells (ring_on (length v.cells) cursor 1)
    → v1 ≡ with_cells v (ruled (length v.cells) (marked_cell v.cells cursor)) → ch ≡ glyph code false
    → v2 ≡ with_cells v1 (set v1.cells cursor (Char ch)) → v3 ≡ record v2 { cursor = next } → step v3 Done ≡ typed_step v code
unfolding typed_step
typed_done v v1 v2 v3 code cursor next ch is at opens inside goes marks glyph_is puts moves =
    let cells : List Cell = v.cells in
    let here : v3 ≡ record v { cells = ruled (length cells) (typed_cell cells cursor code); cursor = next } =
    moves ∙ ap (λ (w : Picture). record w { cursor = next })
    (puts ∙ ap (λ (w : Picture). with_cells w (set w.cells cursor (Char ch))) marks ∙ ap (with_cells v) (typed_cells cells cursor code ch inside glyph_is)) in
    ap (λ (w : Picture). step w Done)
    (here ∙ ap (λ c. record v { cells = ruled (length cells) (typed_cell cells c code); cursor = next }) at
    ∙ ap (λ c. record v { cells = ruled (length cells) (typed_cell cells v.cursor code); cursor = c }) (goes ∙ ap (λ c. settled cells (ring_on (length cells) c 1)) at))
    ∙ sym (cond-true (is_graphic code) _ _ is ∙ cond-true (is_open cells v.cursor) _ _ (ap (is_open cells) (sym at) ∙ opens))

-- ---- Erase EOF
pub eof_inhibited : (v after : Picture) (pressed : Pressed) (cursor : ℕ) → cursor ≡ v.cursor → is_open v.cells cursor ≡ false
    → step after pressed ≡ inhibited v → step after pressed ≡ erase_eof_step v
unfolding erase_eof_step
eof_inhibited v after pressed cursor at shut says =
    says ∙ sym (cond-false (is_open v.cells v.cursor) _ _ (ap (is_open v.cells) (sym at) ∙ shut))

erased_cells : (cells now : List Cell) (c count : ℕ) → c < length cells → is_attribute (cell_at cells c) ≡ false
    → count ≡ steps_to (length cells) c (attribute_from cells c) → now ≡ ruled (length cells) (marked_cell cells c)
    → ruled (length now) (so_far now c count (λ p. blank)) ≡ ruled (length cells) (end_erased_cell cells c)
unfolding end_erased_cell
erased_cells cells now c count inside character counts marks =
    let n : ℕ = length cells in
    let whole : length now ≡ n = ap length marks ∙ length-ruled n (marked_cell cells c) in
    ap (λ m. ruled m (λ p. cond (ltb (ring_distance m c p) count) blank (cell_at now p))) whole
    ∙ ruled_same n (λ p. cond (ltb (ring_distance n c p) count) blank (cell_at now p)) (end_erased_cell cells c)
    (λ p lt.
    ap (λ t. cond t blank (cell_at now p)) (ap (ltb (ring_distance n c p)) counts ∙ rest_law cells c p inside lt character)
    ∙ ap (cond (is_in_rest cells c (attribute_before cells c) p) blank) (ap (λ xs. cell_at xs p) marks ∙ cell_at-ruled n (marked_cell cells c) p lt))

pub eof_done : (v v1 v2 : Picture) (cursor count : ℕ) → cursor ≡ v.cursor → is_open v.cells cursor ≡ true → cursor < length v.cells
    → count ≡ steps_to (length v.cells) cursor (attribute_from v.cells cursor) → v1 ≡ with_cells v (ruled (length v.cells) (marked_cell v.cells cursor))
    → v2 ≡ with_cells v1 (ruled (length v1.cells) (so_far v1.cells cursor count (λ p. blank))) → step v2 Done ≡ erase_eof_step v
unfolding erase_eof_step
eof_done v v1 v2 cursor count at opens inside counts marks nulls =
    let cells : List Cell = v.cells in
    let here : v2 ≡ with_cells v (ruled (length cells) (end_erased_cell cells cursor)) =
    nulls ∙ ap (with_cells v1) (erased_cells cells v1.cells cursor count inside (open_character cells cursor opens) counts (ap (λ (w : Picture). w.cells) marks))
    ∙ ap (λ (w : Picture). with_cells w (ruled (length cells) (end_erased_cell cells cursor))) marks in
    ap (λ (w : Picture). step w Done) (here ∙ ap (λ c. with_cells v (ruled (length cells) (end_erased_cell cells c))) at)
    ∙ sym (cond-true (is_open cells v.cursor) _ _ (ap (is_open cells) (sym at) ∙ opens))

-- ---- Delete
pub delete_inhibited : (v after : Picture) (pressed : Pressed) (cursor : ℕ) → cursor ≡ v.cursor → is_open v.cells cursor ≡ false
    → step after pressed ≡ inhibited v → step after pressed ≡ delete_step v
unfolding delete_step
delete_inhibited v after pressed cursor at shut says =
    says ∙ sym (cond-false (is_open v.cells v.cursor) _ _ (ap (is_open v.cells) (sym at) ∙ shut))

run_test : (n c end p : ℕ) → c < n → p < n → c ≤ end → end ≤ n → ltb (ring_distance n c p) (end - c) ≡ (leb c p && ltb p end)
run_test n c end p inside lt ahead within =
    elim (distance_cases n c p) [
      | inl a ↦ elim (cases_lt p end) [
        | inl below ↦ lt-ltb _ _ (omega arith) ∙ sym (ap (λ t. t && ltb p end) (le-leb c p a.0) ∙ lt-ltb p end below)
        | inr past ↦ le-ltb _ _ (omega arith) ∙ sym (ap (λ t. t && ltb p end) (le-leb c p a.0) ∙ le-ltb p end past)
      ]
      | inr a ↦ le-ltb _ _ (omega arith) ∙ sym (ap (λ t. t && ltb p end) (lt-leb c p a.0))
    ]

pub marked_chars : (cells : List Cell) (c from end : ℕ) → end ≤ length cells → AreCharacters cells from end → AreCharacters (ruled (length cells) (marked_cell cells c)) from end
marked_chars cells c from end within characters p ahead below =
    ap is_attribute (cell_at-ruled (length cells) (marked_cell cells c) p (omega arith) ∙ marked_character cells c p (characters p ahead below)) ∙ characters p ahead below

moved_marked : (cells : List Cell) (c end p : ℕ) → c ≤ p → p < end → end ≤ length cells → AreCharacters cells c end
    → moved_back (ruled (length cells) (marked_cell cells c)) end p ≡ moved_back cells end p
moved_marked cells c end p from below within characters =
    elim (cases_eq (p + 1) end) [
      | inl last ↦ cond-true (eqb (p + 1) end) _ _ (eq-eqb (p + 1) end last) ∙ sym (cond-true (eqb (p + 1) end) _ _ (eq-eqb (p + 1) end last))
      | inr more ↦ ap (cond (eqb (p + 1) end) blank)
          (cell_at-ruled (length cells) (marked_cell cells c) (p + 1) (omega arith) ∙ marked_character cells c (p + 1) (characters (p + 1) (omega arith) (omega arith)))
    ]

deleted_at : (cells now : List Cell) (c end p : ℕ) → c < length cells → p < length cells → c ≤ end → end ≤ length cells → AreCharacters cells c end
    → now ≡ ruled (length cells) (marked_cell cells c)
    → cond (ltb (ring_distance (length cells) c p) (end - c)) (moved_back now end p) (cell_at now p) ≡ deleted_cell cells end c p
unfolding deleted_cell
deleted_at cells now c end p inside lt ahead within characters marks =
    let n : ℕ = length cells in
    let here : cell_at now p ≡ marked_cell cells c p = ap (λ xs. cell_at xs p) marks ∙ cell_at-ruled n (marked_cell cells c) p lt in
    ap (λ t. cond t (moved_back now end p) (cell_at now p)) (run_test n c end p inside lt ahead within)
    ∙ ap (cond (leb c p && ltb p end) (moved_back now end p)) here
    ∙ elim (cases_lt p c) [
      | inl before ↦
          let no : (leb c p && ltb p end) ≡ false = ap (λ t. t && ltb p end) (lt-leb c p before) in
          cond-false (leb c p && ltb p end) _ _ no ∙ sym (cond-false (leb c p && ltb p end) _ _ no)
      | inr from ↦ elim (cases_lt p end) [
        | inl below ↦ ap (λ x. cond (leb c p && ltb p end) x (marked_cell cells c p)) (ap (λ xs. moved_back xs end p) marks ∙ moved_marked cells c end p from below within characters)
        | inr past ↦
            let no : (leb c p && ltb p end) ≡ false = ap (λ t. t && ltb p end) (le-leb c p from) ∙ le-ltb p end past in
            cond-false (leb c p && ltb p end) _ _ no ∙ sym (cond-false (leb c p && ltb p end) _ _ no)
      ]
    ]

deleted_cells : (cells now : List Cell) (c end : ℕ) → c < length cells → c ≤ end → end ≤ length cells → AreCharacters cells c end
    → now ≡ ruled (length cells) (marked_cell cells c)
    → ruled (length now) (so_far now c (end - c) (moved_back now end)) ≡ ruled (length cells) (deleted_cell cells end c)
deleted_cells cells now c end inside ahead within characters marks =
    let n : ℕ = length cells in
    let whole : length now ≡ n = ap length marks ∙ length-ruled n (marked_cell cells c) in
    ap (λ m. ruled m (λ p. cond (ltb (ring_distance m c p) (end - c)) (moved_back now end p) (cell_at now p))) whole
    ∙ ruled_same n (λ p. cond (ltb (ring_distance n c p) (end - c)) (moved_back now end p) (cell_at now p)) (deleted_cell cells end c)
    (λ p lt. deleted_at cells now c end p inside lt ahead within characters marks)

pub delete_done : (v v1 v2 : Picture) (cursor end : ℕ) → cursor ≡ v.cursor → is_open v.cells cursor ≡ true → cursor < length v.cells
    → end ≡ run_end v.cells v.size.cols cursor → cursor ≤ end → end ≤ length v.cells → AreCharacters v.cells cursor end
    → v1 ≡ with_cells v (ruled (length v.cells) (marked_cell v.cells cursor))
    → v2 ≡ with_cells v1 (ruled (length v1.cells) (so_far v1.cells cursor (end - cursor) (moved_back v1.cells end))) → step v2 Done ≡ delete_step v
unfolding delete_step
delete_done v v1 v2 cursor end at opens inside ends ahead within characters marks moves =
    let cells : List Cell = v.cells in
    let here : v2 ≡ with_cells v (ruled (length cells) (deleted_cell cells end cursor)) =
    moves ∙ ap (with_cells v1) (deleted_cells cells v1.cells cursor end inside ahead within characters (ap (λ (w : Picture). w.cells) marks))
    ∙ ap (λ (w : Picture). with_cells w (ruled (length cells) (deleted_cell cells end cursor))) marks in
    ap (λ (w : Picture). step w Done)
    (here ∙ ap (λ e. with_cells v (ruled (length cells) (deleted_cell cells e cursor))) ends
    ∙ ap (λ c. with_cells v (ruled (length cells) (deleted_cell cells (run_end cells v.size.cols c) c))) at)
    ∙ sym (cond-true (is_open cells v.cursor) _ _ (ap (is_open cells) (sym at) ∙ opens))
