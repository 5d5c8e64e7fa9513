-- What each stroke does: to the screen, to insert mode, and the answer.
use Rattle.std.specs.Prelude.{◌≡◌, ℕ, Bool, true, false, not, ◌&&◌, length, Option, Some, None, if◌then◌else◌}
use Rattle.ds_codec.specs.Character.{is_graphic}
use Rattle.ds_screen.specs.declared.lock.Lock.{Lock}
use Rattle.ds_screen.specs.declared.lock.Lock.TheVariants.{Free, Waiting, Error}
use Rattle.ds_screen.specs.Ring.{ring_on}
use Rattle.ds_screen.specs.Picture.{Picture}
use Rattle.ds_keys.specs.declared.key.Key.{Key}
use Rattle.ds_keys.specs.declared.key.Key.TheVariants.{Typed, Reset}
use Rattle.ds_keys.specs.declared.pressed.Pressed.{Pressed}
use Rattle.ds_keys.specs.declared.pressed.Pressed.TheVariants.{Done, Inhibited, Ignored, Sent}
use Rattle.ds_keys.specs.Moves.{start_ahead, settled}
use Rattle.ds_keys.specs.KeyStep.{Step, step, ignored, inhibited, edited, typed_cell, step_of}
use Rattle.ds_strokes.specs.declared.stroke.Stroke.{Stroke}
use Rattle.ds_strokes.specs.declared.stroke.Stroke.TheVariants as stroke
use Rattle.ds_strokes.specs.Room.{readied}

-- a screen, and whether insert mode is on
pub record Operating : Type 0 where
  pub screen : Picture
  pub inserts : Bool

abbrev pub operating : Picture → Bool → Operating
operating screen inserts = record { screen = screen; inserts = inserts }

-- ---- the screen

-- where the cursor goes behind a character that was put at it, and where Tab takes it
abbrev pub goes_on : Picture → ℕ
goes_on v = settled v.cells (ring_on (length v.cells) v.cursor 1)

abbrev pub tabs : Picture → ℕ
tabs v = start_ahead v.cells v.cursor

-- the cursor's position holds the code, its field is modified, and the cursor goes where it is told
abbrev pub stored : Picture → ℕ → (Picture → ℕ) → Step
stored v code next = edited v (typed_cell v.cells v.cursor code) (next v)

abbrev pub stored_in : Picture → Option Picture → ℕ → (Picture → ℕ) → Step
stored_in v None code next = inhibited v
stored_in v (Some place) code next = stored place code next

-- a character put at the cursor, in a field that is full in insert mode inhibited
unfoldable pub put_step : Bool → Picture → ℕ → (Picture → ℕ) → Step
put_step inserts v code next = stored_in v (readied inserts v) code next

-- keys but characters do in insert mode what they do without
abbrev pub free_key_step : Bool → Picture → Key → Step
free_key_step inserts v (Typed code) = if is_graphic code then put_step inserts v code goes_on else ignored v
free_key_step inserts v key = step_of v key

-- a stroke on a free keyboard. That the cursor goes on by Tab from where duplicate was put, and that both characters may be
-- put into numeric fields, are s3270's rules and ours
abbrev pub free_stroke_step : Bool → Picture → Stroke → Step
free_stroke_step inserts v (stroke.Key key) = free_key_step inserts v key
free_stroke_step inserts v stroke.Insert = step v Done
free_stroke_step inserts v stroke.Dup = put_step inserts v 0x1C tabs
free_stroke_step inserts v stroke.FieldMark = put_step inserts v 0x1E goes_on

-- on a keyboard that is locked
abbrev pub locked_stroke_step : Picture → Stroke → Step
locked_stroke_step v (stroke.Key key) = step_of v key
locked_stroke_step v stroke.Insert = ignored v
locked_stroke_step v stroke.Dup = ignored v
locked_stroke_step v stroke.FieldMark = ignored v

abbrev pub step_under : Lock → Bool → Picture → Stroke → Step
step_under Free inserts v stroke = free_stroke_step inserts v stroke
step_under Waiting inserts v stroke = locked_stroke_step v stroke
step_under Error inserts v stroke = locked_stroke_step v stroke

-- the one picture and the one answer of a stroke
unfoldable pub stroke_step : Operating → Stroke → Step
stroke_step o stroke = step_under o.screen.lock o.inserts o.screen stroke

-- ---- insert mode

abbrev pub is_reset : Key → Bool
is_reset Reset = true
is_reset key = false

-- a stroke that was done: Insert begins insert mode, Reset ends it
abbrev pub done_inserts : Bool → Stroke → Bool
done_inserts inserts (stroke.Key key) = inserts && not (is_reset key)
done_inserts inserts stroke.Insert = true
done_inserts inserts stroke.Dup = inserts
done_inserts inserts stroke.FieldMark = inserts

-- so does a key that sends; a stroke that is inhibited or ignored leaves it
abbrev pub inserts_after : Bool → Stroke → Pressed → Bool
inserts_after inserts stroke Done = done_inserts inserts stroke
inserts_after inserts stroke (Sent aid) = false
inserts_after inserts stroke Inhibited = inserts
inserts_after inserts stroke Ignored = inserts

-- ---- both

abbrev pub stroke_answer : Operating → Stroke → Pressed
stroke_answer o stroke = (stroke_step o stroke).pressed

abbrev pub after_stroke : Operating → Stroke → Operating
after_stroke o stroke = operating (stroke_step o stroke).after (inserts_after o.inserts stroke (stroke_answer o stroke))

-- the stroke leads from one to another, with this answer
pub record StrokeStep (before : Operating) (stroke : Stroke) (after : Operating) (answer : Pressed) : Type 0 where
  pub after_it : after ≡ after_stroke before stroke
  pub answered : answer ≡ stroke_answer before stroke

-- the stroke is this key
abbrev pub IsKey : Stroke → (Key → Type 0) → Type 0
IsKey (stroke.Key key) P = P key
IsKey stroke.Insert P = Unit {0}
IsKey stroke.Dup P = Unit {0}
IsKey stroke.FieldMark P = Unit {0}
