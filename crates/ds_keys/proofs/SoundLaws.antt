-- Keys leave a sound picture sound.
use Rattle.std.proofs.Common.{◌≡◌, ℕ, ◌+◌, ◌<◌, ◌≤◌, ◌&&◌, ◌||◌, Bool, true, false, not, cond, eqb, ltb, leb, List, [], ◌∷◌, length, Option, Some, refl, sym, ◌∙◌, subst, arith, inl, inr}
use Rattle.std.specs.Option.{option_map, unwrap_or}
use Rattle.std.specs.List.{list_all}
use Rattle.std.proofs.lemmas.Bool.{cond_both, ltb-true}
use Rattle.std.proofs.lemmas.List.{length-replicate}
use Rattle.std.proofs.Math.Nat.{mul-le-mul_left}
use Rattle.ds_codec.specs.declared.cell.Cell.{Cell}
use Rattle.ds_codec.specs.declared.cell.Cell.TheVariants.{Field, Char}
use Rattle.ds_codec.specs.declared.size.Size.{Size}
use Rattle.ds_codec.specs.declared.size.Mode.{Mode}
use Rattle.ds_codec.specs.Aid.{is_long_aid, is_short_aid, is_aid}
use Rattle.ds_codec.specs.Character.{glyph, is_graphic}
use Rattle.ds_codec.specs.Geometry.{IsGood, cells_of}
use Rattle.ds_screen.specs.declared.lock.Lock.{Lock}
use Rattle.ds_screen.specs.declared.lock.Lock.TheVariants.{Free, Waiting, Error}
use Rattle.ds_screen.specs.Ring.{ring_on, ring_back, least}
use Rattle.ds_screen.specs.Picture.{Picture, IsSound, blank, cell_at, is_real, ruled}
use Rattle.ds_screen.specs.Fields.{is_at, is_open, first_open, is_character, attribute_before}
use Rattle.ds_screen.specs.Records.{erased, cleared_cell}
use Rattle.ds_screen.proofs.RingLaws.{search_cases, least_found, least_none, on_lt, back_lt}
use Rattle.ds_screen.proofs.RuledLaws.{length-ruled}
use Rattle.ds_screen.proofs.CharacterLaws.{AreReal, each_real, all_real, ruled_real, either_real, blank_real, cleared_cell_real, nulls_real}
use Rattle.ds_keys.specs.declared.key.Key.{Key}
use Rattle.ds_keys.specs.declared.key.Key.TheVariants.{Typed, Left, Right, Up, Down, Tab, BackTab, NewLine, Home, EraseEof, EraseInput, Delete, Reset, Attention}
use Rattle.ds_keys.specs.Moves.{is_field_start, start_ahead, start_back, stops_cursor, settled_at, settled, row_end, next_row}
use Rattle.ds_keys.specs.KeyStep.{Step, sent, is_sending, modified, marked_cell, typed_cell, is_in_rest, end_erased_cell, run_end, deleted_cell, typed_step, erase_eof_step, delete_step, erase_input_step, attention_step, free_step, error_step, step_under, step_of}
use Rattle.ds_keys.specs.KeyRuns.{after_key, after}
use Rattle.ds_keys.specs.Laws.{KeysStaySound}
use Rattle.ds_keys.proofs.EditLaws.{graphic_text}

-- ---- places are inside
search_lt : (n : ℕ) (place : ℕ → ℕ) (test : ℕ → Bool) → 0 < n → ((d : ℕ) → d < n → place d < n) → unwrap_or (option_map place (least n test)) 0 < n
search_lt n place test some each =
    let P : Option ℕ → Type 0 = λ o. unwrap_or (option_map place o) 0 < n in
    elim (search_cases n test) [
      | inl found ↦ subst P (sym (least_found n test found.0 found.1)) (each found.0 found.1.inside)
      | inr none ↦ subst P (sym (least_none n test none)) some
    ]

ahead_lt : (cells : List Cell) (p : ℕ) → p < length cells → start_ahead cells p < length cells
unfolding start_ahead
ahead_lt cells p inside =
    search_lt (length cells) (λ d. ring_on (length cells) p (d + 1)) (λ d. is_field_start cells (ring_on (length cells) p (d + 1))) (omega arith)
    (λ d few. on_lt (length cells) p (d + 1) inside (omega arith))

start_back_lt : (cells : List Cell) (p : ℕ) → p < length cells → start_back cells p < length cells
unfolding start_back
start_back_lt cells p inside =
    search_lt (length cells) (λ d. ring_back (length cells) p (d + 1)) (λ d. is_field_start cells (ring_back (length cells) p (d + 1))) (omega arith)
    (λ d few. back_lt (length cells) p (d + 1) inside (omega arith) (omega arith))

open_lt : (cells : List Cell) (p : ℕ) → p < length cells → first_open cells p < length cells
unfolding first_open
open_lt cells p inside =
    search_lt (length cells) (ring_on (length cells) p) (λ d. is_open cells (ring_on (length cells) p d)) (omega arith)
    (λ d few. on_lt (length cells) p d inside (omega arith))

settled_at_lt : (cells : List Cell) (p : ℕ) → p < length cells → settled_at cells (Some p) < length cells
settled_at_lt cells p inside =
    cond_both (is_character (cell_at cells p)) p (start_ahead cells p) (λ x. x < length cells) (λ is. inside) (λ none. ahead_lt cells p inside)

settled_lt : (cells : List Cell) (p : ℕ) → p < length cells → settled cells p < length cells
unfolding settled
settled_lt cells p inside =
    let n : ℕ = length cells in
    let test : ℕ → Bool = λ d. stops_cursor (cell_at cells (ring_on n p d)) in
    let P : Option ℕ → Type 0 = λ o. settled_at cells (option_map (ring_on n p) o) < n in
    elim (search_cases n test) [
      | inl found ↦ subst P (sym (least_found n test found.0 found.1)) (settled_at_lt cells (ring_on n p found.0) (on_lt n p found.0 inside (omega (arith, found.1.inside))))
      | inr none ↦ subst P (sym (least_none n test none)) (omega arith)
    ]

row_lt : (n cols p : ℕ) → p < n → next_row n cols p < n
unfolding next_row
row_lt n cols p inside = cond_both (ltb (row_end cols p) n) (row_end cols p) 0 (λ x. x < n) (λ is. ltb-true (row_end cols p) n is) (λ none. omega arith)

back_few : (n p d : ℕ) → p < n → 0 < d → d ≤ n → ring_back n p d < n
back_few n p d inside some few = back_lt n p d inside few some

-- ---- sizes
some_cells : (mode : Mode) (size : Size) → IsGood mode size → 0 < cells_of size
some_cells mode size good =
    let h : 1 ≤ size.cols = omega (arith, good.two_cols) in
    omega (arith, mul-le-mul_left size.rows h, good.some_rows)

few_cols : (mode : Mode) (size : Size) → IsGood mode size → size.cols ≤ cells_of size
few_cols mode size good = omega (arith, mul-le-mul_left size.cols good.some_rows)

good_size : (v : Picture) → IsSound v → IsGood v.geometry.mode v.size
good_size v s =
    let P : Size → Type 0 = λ size. IsGood v.geometry.mode size in
    elim s.one_of_two [ inl same ↦ subst P (sym same) s.default_good | inr same ↦ subst P (sym same) s.alternate_good ]

-- ---- characters exist
modified_real : (cell : Cell) → is_real cell ≡ true → is_real (modified cell) ≡ true
modified_real (Field bits) real = refl
modified_real (Char character) real = real

marked_real : (cells : List Cell) (c : ℕ) → AreReal cells → (p : ℕ) → is_real (marked_cell cells c p) ≡ true
marked_real cells c each p =
    either_real (is_at (attribute_before cells c) p) (modified (cell_at cells p)) (cell_at cells p) (modified_real (cell_at cells p) (each p)) (each p)

typed_cell_real : (cells : List Cell) (c code : ℕ) → is_graphic code ≡ true → AreReal cells → (p : ℕ) → is_real (typed_cell cells c code p) ≡ true
unfolding typed_cell
typed_cell_real cells c code is each p =
    either_real (eqb p c) (Char (glyph code false)) (marked_cell cells c p) (graphic_text code is) (marked_real cells c each p)

end_erased_real : (cells : List Cell) (c : ℕ) → AreReal cells → (p : ℕ) → is_real (end_erased_cell cells c p) ≡ true
unfolding end_erased_cell
end_erased_real cells c each p =
    either_real (is_in_rest cells c (attribute_before cells c) p) blank (marked_cell cells c p) blank_real (marked_real cells c each p)

deleted_real : (cells : List Cell) (end c : ℕ) → AreReal cells → (p : ℕ) → is_real (deleted_cell cells end c p) ≡ true
unfolding deleted_cell
deleted_real cells end c each p =
    either_real (leb c p && ltb p end) (cond (eqb (p + 1) end) blank (cell_at cells (p + 1))) (marked_cell cells c p)
    (either_real (eqb (p + 1) end) blank (cell_at cells (p + 1)) blank_real (each (p + 1))) (marked_real cells c each p)

-- ---- each key
abbrev picture_with : Picture → List Cell → ℕ → Lock → ℕ → Picture
picture_with v cells cursor lock aid = record v { cells = cells; cursor = cursor; lock = lock; aid = aid }

sound_with : (v : Picture) (cells : List Cell) (cursor : ℕ) (lock : Lock) (aid : ℕ) → IsSound v → length cells ≡ length v.cells → cursor < length v.cells
    → list_all is_real cells ≡ true → is_aid aid ≡ true → IsSound (picture_with v cells cursor lock aid)
sound_with v cells cursor lock aid s len inside real known =
    record {
      default_good = s.default_good;
      alternate_good = s.alternate_good;
      one_of_two = s.one_of_two;
      whole = len ∙ s.whole;
      cursor_inside = let P : ℕ → Type 0 = λ n. cursor < n in subst P s.whole inside;
      characters = real;
      attention = known;
    }

cursor_lt : (v : Picture) → IsSound v → v.cursor < length v.cells
cursor_lt v s = let P : ℕ → Type 0 = λ n. v.cursor < n in subst P (sym s.whole) s.cursor_inside

cols_le : (v : Picture) → IsSound v → v.size.cols ≤ length v.cells
cols_le v s = let P : ℕ → Type 0 = λ n. v.size.cols ≤ n in subst P (sym s.whole) (few_cols v.geometry.mode v.size (good_size v s))

abbrev StepSound : Step → Type 0
StepSound s = IsSound s.after

moved_sound : (v : Picture) (p : ℕ) → IsSound v → p < length v.cells → IsSound (record v { cursor = p })
moved_sound v p s inside = sound_with v v.cells p v.lock v.aid s refl inside s.characters s.attention

locked_sound : (v : Picture) (lock : Lock) → IsSound v → IsSound (record v { lock = lock })
locked_sound v lock s = sound_with v v.cells v.cursor lock v.aid s refl (cursor_lt v s) s.characters s.attention

edited_sound : (v : Picture) (rule : ℕ → Cell) (p : ℕ) → IsSound v → p < length v.cells → ((q : ℕ) → is_real (rule q) ≡ true)
    → IsSound (record v { cells = ruled (length v.cells) rule; cursor = p })
edited_sound v rule p s inside real =
    sound_with v (ruled (length v.cells) rule) p v.lock v.aid s (length-ruled (length v.cells) rule) inside (all_real _ (ruled_real (length v.cells) rule real)) s.attention

typed_sound : (v : Picture) (code : ℕ) → IsSound v → StepSound (typed_step v code)
unfolding typed_step
typed_sound v code s =
    let n : ℕ = length v.cells in
    let c : v.cursor < n = cursor_lt v s in
    cond_both (is_graphic code) _ _ StepSound
    (λ is. cond_both (is_open v.cells v.cursor) _ _ StepSound
    (λ opens. edited_sound v (typed_cell v.cells v.cursor code) (settled v.cells (ring_on n v.cursor 1)) s (settled_lt v.cells (ring_on n v.cursor 1) (on_lt n v.cursor 1 c (omega arith)))
    (typed_cell_real v.cells v.cursor code is (each_real v.cells s.characters)))
    (λ shut. locked_sound v Error s))
    (λ none. s)

eof_sound : (v : Picture) → IsSound v → StepSound (erase_eof_step v)
unfolding erase_eof_step
eof_sound v s =
    cond_both (is_open v.cells v.cursor) _ _ StepSound
    (λ opens. edited_sound v (end_erased_cell v.cells v.cursor) v.cursor s (cursor_lt v s) (end_erased_real v.cells v.cursor (each_real v.cells s.characters))) (λ shut. locked_sound v Error s)

delete_sound : (v : Picture) → IsSound v → StepSound (delete_step v)
unfolding delete_step
delete_sound v s =
    cond_both (is_open v.cells v.cursor) _ _ StepSound
    (λ opens. edited_sound v (deleted_cell v.cells (run_end v.cells v.size.cols v.cursor) v.cursor) v.cursor s (cursor_lt v s)
    (deleted_real v.cells (run_end v.cells v.size.cols v.cursor) v.cursor (each_real v.cells s.characters))) (λ shut. locked_sound v Error s)

input_sound : (v : Picture) → IsSound v → StepSound (erase_input_step v)
input_sound v s =
    edited_sound v (cleared_cell v.cells) (first_open v.cells 0) s (open_lt v.cells 0 (omega (arith, cursor_lt v s))) (cleared_cell_real v.cells (each_real v.cells s.characters))

erased_sound : (v : Picture) (aid : ℕ) → IsSound v → is_aid aid ≡ true → StepSound (sent (erased v.geometry.default v) aid)
erased_sound v aid s known =
    record {
      default_good = s.default_good;
      alternate_good = s.alternate_good;
      one_of_two = inl refl;
      whole = length-replicate (cells_of v.geometry.default) blank;
      cursor_inside = some_cells v.geometry.mode v.geometry.default s.default_good;
      characters = nulls_real (cells_of v.geometry.default);
      attention = known;
    }

of_two : (long short none : Bool) → not (long || short) ≡ false → (long || (short || none)) ≡ true
of_two true short none sends = refl
of_two false true none sends = refl
of_two false false none sends = absurd cc

sending_known : (aid : ℕ) → not (is_sending aid) ≡ false → is_aid aid ≡ true
unfolding is_long_aid is_short_aid is_aid
sending_known aid sends = of_two (is_long_aid aid) (is_short_aid aid) (eqb aid 0x60) sends

attention_sound : (v : Picture) (aid : ℕ) → IsSound v → StepSound (attention_step v aid)
unfolding attention_step
attention_sound v aid s =
    cond_both (not (is_sending aid)) _ _ StepSound (λ none. s)
    (λ sends. cond_both (eqb aid 0x6D) _ _ StepSound (λ clear. erased_sound v aid s (sending_known aid sends))
    (λ other. sound_with v v.cells v.cursor Waiting aid s refl (cursor_lt v s) s.characters (sending_known aid sends)))

free_sound : (v : Picture) (key : Key) → IsSound v → StepSound (free_step v key)
unfolding free_step
free_sound v (Typed code) s = typed_sound v code s
free_sound v Left s = moved_sound v _ s (back_few (length v.cells) v.cursor 1 (cursor_lt v s) (omega arith) (omega (arith, cursor_lt v s)))
free_sound v Right s = moved_sound v _ s (on_lt (length v.cells) v.cursor 1 (cursor_lt v s) (omega (arith, cursor_lt v s)))
free_sound v Up s = moved_sound v _ s (back_few (length v.cells) v.cursor v.size.cols (cursor_lt v s) (omega (arith, (good_size v s).two_cols)) (cols_le v s))
free_sound v Down s = moved_sound v _ s (on_lt (length v.cells) v.cursor v.size.cols (cursor_lt v s) (cols_le v s))
free_sound v Tab s = moved_sound v _ s (ahead_lt v.cells v.cursor (cursor_lt v s))
free_sound v BackTab s = moved_sound v _ s (start_back_lt v.cells v.cursor (cursor_lt v s))
free_sound v NewLine s = moved_sound v _ s (open_lt v.cells (next_row (length v.cells) v.size.cols v.cursor) (row_lt (length v.cells) v.size.cols v.cursor (cursor_lt v s)))
free_sound v Home s = moved_sound v _ s (open_lt v.cells 0 (omega (arith, cursor_lt v s)))
free_sound v EraseEof s = eof_sound v s
free_sound v EraseInput s = input_sound v s
free_sound v Delete s = delete_sound v s
free_sound v Reset s = s
free_sound v (Attention aid) s = attention_sound v aid s

error_sound : (v : Picture) (key : Key) → IsSound v → StepSound (error_step v key)
error_sound v Reset s = locked_sound v Free s
error_sound v key s = s

under_sound : (lock : Lock) (v : Picture) (key : Key) → IsSound v → StepSound (step_under lock v key)
under_sound Free v key s = free_sound v key s
under_sound Waiting v key s = s
under_sound Error v key s = error_sound v key s

pub key_sound : (v : Picture) (key : Key) → IsSound v → IsSound (after_key v key)
unfolding step_of
key_sound v key s = under_sound v.lock v key s

pub keys_stay_sound : KeysStaySound
unfolding after
keys_stay_sound v [] s = s
keys_stay_sound v (key ∷ keys) s = keys_stay_sound (after_key v key) keys (key_sound v key s)
