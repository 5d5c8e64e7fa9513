-- Strokes leave a sound picture sound.
use Rattle.std.proofs.Common.{◌≡◌, ℕ, ◌<◌, Bool, true, false, eqb, List, [], ◌∷◌, length, Option, Some, None, refl, ◌∙◌, subst}
use Rattle.std.proofs.lemmas.Bool.{cond_both}
use Rattle.ds_codec.specs.declared.cell.Cell.{Cell}
use Rattle.ds_codec.specs.declared.cell.Cell.TheVariants.{Field, Char}
use Rattle.ds_codec.specs.Character.{glyph, is_graphic, is_text}
use Rattle.ds_codec.specs.Geometry.{cells_of}
use Rattle.ds_screen.specs.declared.lock.Lock.{Lock}
use Rattle.ds_screen.specs.declared.lock.Lock.TheVariants.{Free, Waiting, Error}
use Rattle.ds_screen.specs.Picture.{Picture, IsSound, cell_at, is_real}
use Rattle.ds_screen.specs.Fields.{is_open, is_at, attribute_before}
use Rattle.ds_screen.proofs.RuledLaws.{length-ruled}
use Rattle.ds_screen.proofs.CharacterLaws.{AreReal, each_real, all_real, ruled_real, either_real}
use Rattle.ds_keys.specs.declared.key.Key.{Key}
use Rattle.ds_keys.specs.declared.key.Key.TheVariants.{Typed, Left, Right, Up, Down, Tab, BackTab, NewLine, Home, EraseEof, EraseInput, Delete, Reset, Attention}
use Rattle.ds_keys.specs.KeyStep.{Step, modified, marked_cell, typed_cell}
use Rattle.ds_keys.proofs.EditLaws.{graphic_text}
use Rattle.ds_keys.proofs.SoundLaws.{key_sound}
use Rattle.ds_strokes.specs.declared.stroke.Stroke.{Stroke}
use Rattle.ds_strokes.specs.declared.stroke.Stroke.TheVariants as stroke
use Rattle.ds_strokes.specs.Room.{readied}
use Rattle.ds_strokes.specs.StrokeStep.{Operating, goes_on, tabs, stored, stored_in, put_step, free_key_step, free_stroke_step, locked_stroke_step, step_under, stroke_step, after_stroke}
use Rattle.ds_strokes.specs.StrokeRuns.{after_strokes}
use Rattle.ds_strokes.specs.Laws.{StrokesStaySound}
use Rattle.ds_strokes.proofs.StoreLaws.{typed_free, tab_free}
use Rattle.ds_strokes.proofs.ReadyLaws.{IsReady, ready_is}

modified_real : (cell : Cell) → is_real cell ≡ true → is_real (modified cell) ≡ true
modified_real (Field bits) real = refl
modified_real (Char character) real = real

stored_real : (cells : List Cell) (c code : ℕ) → is_text code ≡ true → AreReal cells → (p : ℕ) → is_real (typed_cell cells c code p) ≡ true
unfolding typed_cell
stored_real cells c code text each p =
    either_real (eqb p c) (Char (glyph code false)) (marked_cell cells c p) text
    (either_real (is_at (attribute_before cells c) p) (modified (cell_at cells p)) (cell_at cells p) (modified_real (cell_at cells p) (each p)) (each p))

abbrev freed : Picture → Picture
freed v = record v { lock = Free }

freed_sound : (v : Picture) (lock : Lock) → IsSound v → IsSound (record v { lock = lock })
freed_sound v lock s =
    record { default_good = s.default_good; alternate_good = s.alternate_good; one_of_two = s.one_of_two; whole = s.whole; cursor_inside = s.cursor_inside; characters = s.characters; attention = s.attention }

-- where the cursor goes is inside, since it is where a key takes it
on_inside : (v : Picture) → IsSound v → is_open v.cells v.cursor ≡ true → goes_on v < cells_of v.size
on_inside v s opens =
    let P : Step → Type 0 = λ step. step.after.cursor < cells_of step.after.size in
    subst P (typed_free (freed v) 0x40 refl refl opens) (key_sound (freed v) (Typed 0x40) (freed_sound v Free s)).cursor_inside

tab_inside : (v : Picture) → IsSound v → is_open v.cells v.cursor ≡ true → tabs v < cells_of v.size
tab_inside v s opens =
    let P : Step → Type 0 = λ step. step.after.cursor < cells_of step.after.size in
    subst P (tab_free (freed v) refl) (key_sound (freed v) Tab (freed_sound v Free s)).cursor_inside

abbrev StepSound : Step → Type 0
StepSound s = IsSound s.after

abbrev GoesInside : (Picture → ℕ) → Type 0
GoesInside next = (w : Picture) → IsSound w → is_open w.cells w.cursor ≡ true → next w < cells_of w.size

stored_sound : (w : Picture) (code : ℕ) (next : Picture → ℕ) → IsSound w → is_text code ≡ true → next w < cells_of w.size → StepSound (stored w code next)
stored_sound w code next s text inside =
    record {
      default_good = s.default_good;
      alternate_good = s.alternate_good;
      one_of_two = s.one_of_two;
      whole = length-ruled (length w.cells) (typed_cell w.cells w.cursor code) ∙ s.whole;
      cursor_inside = inside;
      characters = all_real _ (ruled_real (length w.cells) (typed_cell w.cells w.cursor code) (stored_real w.cells w.cursor code text (each_real w.cells s.characters)));
      attention = s.attention;
    }

in_place_sound : (v : Picture) (o : Option Picture) (code : ℕ) (next : Picture → ℕ) → IsSound v → is_text code ≡ true → GoesInside next → ((w : Picture) → o ≡ Some w → IsReady v w)
    → StepSound (stored_in v o code next)
in_place_sound v None code next s text goes ready = freed_sound v Error s
in_place_sound v (Some w) code next s text goes ready =
    let r : IsReady v w = ready w refl in
    stored_sound w code next r.sound text (goes w r.sound r.opens_there)

put_sound : (inserts : Bool) (v : Picture) (code : ℕ) (next : Picture → ℕ) → IsSound v → is_text code ≡ true → GoesInside next → StepSound (put_step inserts v code next)
unfolding put_step
put_sound inserts v code next s text goes = in_place_sound v (readied inserts v) code next s text goes (λ w is. ready_is inserts v w s is)

typing_sound : (inserts : Bool) (v : Picture) (code : ℕ) → IsSound v → StepSound (free_key_step inserts v (Typed code))
typing_sound inserts v code s =
    cond_both (is_graphic code) _ _ StepSound (λ is. put_sound inserts v code goes_on s (graphic_text code is) on_inside) (λ none. s)

free_key_sound : (inserts : Bool) (v : Picture) (key : Key) → IsSound v → StepSound (free_key_step inserts v key)
free_key_sound inserts v (Typed code) s = typing_sound inserts v code s
free_key_sound inserts v Left s = key_sound v Left s
free_key_sound inserts v Right s = key_sound v Right s
free_key_sound inserts v Up s = key_sound v Up s
free_key_sound inserts v Down s = key_sound v Down s
free_key_sound inserts v Tab s = key_sound v Tab s
free_key_sound inserts v BackTab s = key_sound v BackTab s
free_key_sound inserts v NewLine s = key_sound v NewLine s
free_key_sound inserts v Home s = key_sound v Home s
free_key_sound inserts v EraseEof s = key_sound v EraseEof s
free_key_sound inserts v EraseInput s = key_sound v EraseInput s
free_key_sound inserts v Delete s = key_sound v Delete s
free_key_sound inserts v Reset s = key_sound v Reset s
free_key_sound inserts v (Attention aid) s = key_sound v (Attention aid) s

control_text : (is_text 0x1C ≡ true) × (is_text 0x1E ≡ true)
unfolding is_text
control_text = (refl, refl)

free_sound : (inserts : Bool) (v : Picture) (s : Stroke) → IsSound v → StepSound (free_stroke_step inserts v s)
free_sound inserts v (stroke.Key key) s = free_key_sound inserts v key s
free_sound inserts v stroke.Insert s = s
free_sound inserts v stroke.Dup s = put_sound inserts v 0x1C tabs s control_text.0 tab_inside
free_sound inserts v stroke.FieldMark s = put_sound inserts v 0x1E goes_on s control_text.1 on_inside

locked_sound : (v : Picture) (s : Stroke) → IsSound v → StepSound (locked_stroke_step v s)
locked_sound v (stroke.Key key) s = key_sound v key s
locked_sound v stroke.Insert s = s
locked_sound v stroke.Dup s = s
locked_sound v stroke.FieldMark s = s

under_sound : (lock : Lock) (inserts : Bool) (v : Picture) (s : Stroke) → IsSound v → StepSound (step_under lock inserts v s)
under_sound Free inserts v s sound = free_sound inserts v s sound
under_sound Waiting inserts v s sound = locked_sound v s sound
under_sound Error inserts v s sound = locked_sound v s sound

pub stroke_sound : (o : Operating) (s : Stroke) → IsSound o.screen → IsSound (after_stroke o s).screen
unfolding stroke_step
stroke_sound o s sound = under_sound o.screen.lock o.inserts o.screen s sound

pub strokes_stay_sound : StrokesStaySound
unfolding after_strokes
strokes_stay_sound o [] sound = sound
strokes_stay_sound o (s ∷ strokes) sound = strokes_stay_sound (after_stroke o s) strokes (stroke_sound o s sound)
