-- The keep law, stroke by stroke and along strokes.
use Rattle.std.proofs.Common.{◌≡◌, ℕ, Bool, true, false, not, eqb, List, [], ◌∷◌, Option, Some, None, refl, ◌∙◌, ap, inl, inr}
use Rattle.std.proofs.lemmas.Bool.{cond_both, cases_Bool, not-true, and_parts, eqb-true}
use Rattle.ds_codec.specs.declared.cell.Cell.{Cell}
use Rattle.ds_codec.specs.declared.cell.Cell.TheVariants.{Char}
use Rattle.ds_codec.specs.Character.{glyph, is_graphic}
use Rattle.ds_screen.specs.declared.lock.Lock.{Lock}
use Rattle.ds_screen.specs.declared.lock.Lock.TheVariants.{Free, Waiting, Error}
use Rattle.ds_screen.specs.Picture.{Picture, IsSound, cell_at}
use Rattle.ds_screen.specs.Fields.{is_open}
use Rattle.ds_keys.specs.declared.key.Key.{Key}
use Rattle.ds_keys.specs.declared.key.Key.TheVariants.{Typed, Left, Right, Up, Down, Tab, BackTab, NewLine, Home, EraseEof, EraseInput, Delete, Reset, Attention}
use Rattle.ds_keys.specs.KeyStep.{Step, marked_cell, typed_cell, step_of}
use Rattle.ds_keys.specs.declared.pressed.Pressed.{Pressed}
use Rattle.ds_keys.specs.declared.pressed.Pressed.TheVariants.{Done, Inhibited, Ignored, Sent}
use Rattle.ds_keys.specs.KeyRuns.{is_sent, is_accepted, answer_of}
use Rattle.ds_keys.specs.Laws.{Keeps, is_clear}
use Rattle.ds_keys.proofs.CellLaws.{CellKeeps, marked_keeps, character_keeps, rule_keeps, keeps_same, keeps_on}
use Rattle.ds_keys.proofs.KeepLaws.{key_keeps, quiet_key_keeps}
use Rattle.ds_strokes.specs.declared.stroke.Stroke.{Stroke}
use Rattle.ds_strokes.specs.declared.stroke.Stroke.TheVariants as stroke
use Rattle.ds_strokes.specs.Room.{readied}
use Rattle.ds_strokes.specs.StrokeStep.{Operating, goes_on, tabs, stored, stored_in, put_step, free_key_step, free_stroke_step, locked_stroke_step, step_under, stroke_step, after_stroke, stroke_answer, IsKey}
use Rattle.ds_strokes.specs.StrokeRuns.{after_strokes, are_quiet}
use Rattle.ds_strokes.specs.Laws.{is_clear_stroke, StrokeKeeps, QuietStrokesKeep}
use Rattle.ds_strokes.proofs.ReadyLaws.{IsReady, ready_is}
use Rattle.ds_strokes.proofs.SoundLaws.{stroke_sound}

abbrev KeepsStep : Picture → Step → Type 0
KeepsStep v s = Keeps v.cells s.after.cells

typed_each : (cells : List Cell) (c code p : ℕ) → is_open cells c ≡ true → CellKeeps (is_open cells p) (cell_at cells p) (typed_cell cells c code p)
unfolding typed_cell
typed_each cells c code p opens =
    cond_both (eqb p c) (Char (glyph code false)) (marked_cell cells c p) (λ x. CellKeeps (is_open cells p) (cell_at cells p) x)
    (λ here. character_keeps (is_open cells p) (cell_at cells p) (Char (glyph code false)) (ap (is_open cells) (eqb-true p c here) ∙ opens) refl)
    (λ apart. marked_keeps cells c p opens)

in_place : (v : Picture) (o : Option Picture) (code : ℕ) (next : Picture → ℕ) → ((w : Picture) → o ≡ Some w → IsReady v w) → KeepsStep v (stored_in v o code next)
in_place v None code next ready = keeps_same v.cells
in_place v (Some w) code next ready =
    let r : IsReady v w = ready w refl in
    keeps_on v.cells w.cells (stored w code next).after.cells r.keeps
    (rule_keeps w.cells (typed_cell w.cells w.cursor code) (λ p lt. typed_each w.cells w.cursor code p r.opens_there))

put_keeps : (inserts : Bool) (v : Picture) (code : ℕ) (next : Picture → ℕ) → IsSound v → KeepsStep v (put_step inserts v code next)
unfolding put_step
put_keeps inserts v code next s = in_place v (readied inserts v) code next (λ w is. ready_is inserts v w s is)

typing_keeps : (inserts : Bool) (v : Picture) (code : ℕ) → IsSound v → KeepsStep v (free_key_step inserts v (Typed code))
typing_keeps inserts v code s = cond_both (is_graphic code) _ _ (KeepsStep v) (λ is. put_keeps inserts v code goes_on s) (λ none. keeps_same v.cells)

-- a key that is no character keeps the cells where it does as a key
free_key_keeps : (inserts : Bool) (v : Picture) (key : Key) → IsSound v → KeepsStep v (step_of v key) → KeepsStep v (free_key_step inserts v key)
free_key_keeps inserts v (Typed code) s as_key = typing_keeps inserts v code s
free_key_keeps inserts v Left s as_key = as_key
free_key_keeps inserts v Right s as_key = as_key
free_key_keeps inserts v Up s as_key = as_key
free_key_keeps inserts v Down s as_key = as_key
free_key_keeps inserts v Tab s as_key = as_key
free_key_keeps inserts v BackTab s as_key = as_key
free_key_keeps inserts v NewLine s as_key = as_key
free_key_keeps inserts v Home s as_key = as_key
free_key_keeps inserts v EraseEof s as_key = as_key
free_key_keeps inserts v EraseInput s as_key = as_key
free_key_keeps inserts v Delete s as_key = as_key
free_key_keeps inserts v Reset s as_key = as_key
free_key_keeps inserts v (Attention aid) s as_key = as_key

locked_keeps : (v : Picture) (s : Stroke) → IsKey s (λ key. KeepsStep v (step_of v key)) → KeepsStep v (locked_stroke_step v s)
locked_keeps v (stroke.Key key) as_key = as_key
locked_keeps v stroke.Insert as_key = keeps_same v.cells
locked_keeps v stroke.Dup as_key = keeps_same v.cells
locked_keeps v stroke.FieldMark as_key = keeps_same v.cells

free_keeps : (inserts : Bool) (v : Picture) (s : Stroke) → IsSound v → IsKey s (λ key. KeepsStep v (step_of v key)) → KeepsStep v (free_stroke_step inserts v s)
free_keeps inserts v (stroke.Key key) s as_key = free_key_keeps inserts v key s as_key
free_keeps inserts v stroke.Insert s as_key = keeps_same v.cells
free_keeps inserts v stroke.Dup s as_key = put_keeps inserts v 0x1C tabs s
free_keeps inserts v stroke.FieldMark s as_key = put_keeps inserts v 0x1E goes_on s

under_keeps : (lock : Lock) (inserts : Bool) (v : Picture) (s : Stroke) → IsSound v → IsKey s (λ key. KeepsStep v (step_of v key)) → KeepsStep v (step_under lock inserts v s)
under_keeps Free inserts v s sound as_key = free_keeps inserts v s sound as_key
under_keeps Waiting inserts v s sound as_key = locked_keeps v s as_key
under_keeps Error inserts v s sound as_key = locked_keeps v s as_key

-- ---- keys as they are

not_accepted : (p : Pressed) → is_accepted p ≡ false → is_sent p ≡ false
not_accepted Done none = absurd cc
not_accepted (Sent aid) none = absurd cc
not_accepted Inhibited none = refl
not_accepted Ignored none = refl

-- a key that isn't Clear keeps the cells, accepted or not
key_keeps_all : (v : Picture) (key : Key) → is_clear key ≡ false → KeepsStep v (step_of v key)
key_keeps_all v key other =
    elim (cases_Bool (is_accepted (answer_of v key))) [
      | inl accepted ↦ key_keeps v key accepted other
      | inr none ↦ quiet_key_keeps v key (not_accepted (answer_of v key) none)
    ]

each_key : (v : Picture) (s : Stroke) → is_clear_stroke s ≡ false → IsKey s (λ key. KeepsStep v (step_of v key))
each_key v (stroke.Key key) other = key_keeps_all v key other
each_key v stroke.Insert other = tt
each_key v stroke.Dup other = tt
each_key v stroke.FieldMark other = tt

pub stroke_keeps : StrokeKeeps
unfolding stroke_step
stroke_keeps o s sound accepted other = under_keeps o.screen.lock o.inserts o.screen s sound (each_key o.screen s other)

-- ---- strokes that don't send

free_key_quiet : (inserts : Bool) (v : Picture) (key : Key) → is_sent (free_key_step inserts v key).pressed ≡ false → KeepsStep v (step_of v key)
free_key_quiet inserts v (Attention aid) quiet = quiet_key_keeps v (Attention aid) quiet
free_key_quiet inserts v (Typed code) quiet = key_keeps_all v (Typed code) refl
free_key_quiet inserts v Left quiet = key_keeps_all v Left refl
free_key_quiet inserts v Right quiet = key_keeps_all v Right refl
free_key_quiet inserts v Up quiet = key_keeps_all v Up refl
free_key_quiet inserts v Down quiet = key_keeps_all v Down refl
free_key_quiet inserts v Tab quiet = key_keeps_all v Tab refl
free_key_quiet inserts v BackTab quiet = key_keeps_all v BackTab refl
free_key_quiet inserts v NewLine quiet = key_keeps_all v NewLine refl
free_key_quiet inserts v Home quiet = key_keeps_all v Home refl
free_key_quiet inserts v EraseEof quiet = key_keeps_all v EraseEof refl
free_key_quiet inserts v EraseInput quiet = key_keeps_all v EraseInput refl
free_key_quiet inserts v Delete quiet = key_keeps_all v Delete refl
free_key_quiet inserts v Reset quiet = key_keeps_all v Reset refl

quiet_key : (lock : Lock) (inserts : Bool) (v : Picture) (key : Key) → is_sent (step_under lock inserts v (stroke.Key key)).pressed ≡ false → KeepsStep v (step_of v key)
quiet_key Free inserts v key quiet = free_key_quiet inserts v key quiet
quiet_key Waiting inserts v key quiet = quiet_key_keeps v key quiet
quiet_key Error inserts v key quiet = quiet_key_keeps v key quiet

quiet_each : (lock : Lock) (inserts : Bool) (v : Picture) (s : Stroke) → is_sent (step_under lock inserts v s).pressed ≡ false → IsKey s (λ key. KeepsStep v (step_of v key))
quiet_each lock inserts v (stroke.Key key) quiet = quiet_key lock inserts v key quiet
quiet_each lock inserts v stroke.Insert quiet = tt
quiet_each lock inserts v stroke.Dup quiet = tt
quiet_each lock inserts v stroke.FieldMark quiet = tt

pub quiet_stroke_keeps : (o : Operating) (s : Stroke) → IsSound o.screen → is_sent (stroke_answer o s) ≡ false → Keeps o.screen.cells (after_stroke o s).screen.cells
unfolding stroke_step
quiet_stroke_keeps o s sound quiet = under_keeps o.screen.lock o.inserts o.screen s sound (quiet_each o.screen.lock o.inserts o.screen s quiet)

pub quiet_strokes_keep : QuietStrokesKeep
unfolding after_strokes are_quiet
quiet_strokes_keep o [] sound quiet = keeps_same o.screen.cells
quiet_strokes_keep o (s ∷ strokes) sound quiet =
    let parts = and_parts (not (is_sent (stroke_answer o s))) (are_quiet (after_stroke o s) strokes) quiet in
    keeps_on o.screen.cells (after_stroke o s).screen.cells (after_strokes (after_stroke o s) strokes).screen.cells
    (quiet_stroke_keeps o s sound (not-true (is_sent (stroke_answer o s)) parts.0)) (quiet_strokes_keep (after_stroke o s) strokes (stroke_sound o s sound) parts.1)
