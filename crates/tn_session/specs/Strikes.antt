-- What an operator does at a keyboard: presses a key, which heeds no insert mode, or strikes, which heeds it.
use Rattle.std.specs.Prelude.{ℕ, Bool, Option}
use Rattle.ds_keys.specs.declared.key.Key.{Key}
use Rattle.ds_strokes.specs.declared.stroke.Stroke.{Stroke}
use Rattle.ds_strokes.specs.StrokeStep.{Operating, after_stroke}
use Rattle.ds_terminal.specs.Terminal.{KeyTurn, pressed}
use Rattle.ds_terminal.specs.Strokes.{stroke_turn, key_aid, stroke_aid}

pub data Strike : Type 0 where
  by_key : Key → Strike
  by_stroke : Stroke → Strike

-- its attention identifier, where it has one
abbrev pub strike_aid : Strike → Option ℕ
strike_aid (by_key key) = key_aid key
strike_aid (by_stroke stroke) = stroke_aid stroke

-- what comes of it: the picture that is left, the reply, and whether insert mode is on
pub record Struck : Type 0 where
  pub turn : KeyTurn
  pub inserts : Bool

abbrev pub struck : KeyTurn → Bool → Struck
struck turn inserts = record { turn = turn; inserts = inserts }

-- a key that is pressed does what it does without insert mode, and leaves this as it is
abbrev pub struck_by : Strike → Operating → Struck
struck_by (by_key key) o = struck (pressed o.screen key) o.inserts
struck_by (by_stroke stroke) o = struck (stroke_turn o stroke) (after_stroke o stroke).inserts
