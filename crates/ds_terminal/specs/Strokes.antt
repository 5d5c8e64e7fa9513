-- What one stroke does to a terminal: the picture that it shows afterwards, and what it replies.
use Rattle.std.specs.Prelude.{ℕ, Bool, false, Option, Some, None}
use Rattle.ds_keys.specs.declared.key.Key.{Key}
use Rattle.ds_keys.specs.declared.key.Key.TheVariants.{Attention}
use Rattle.ds_strokes.specs.declared.stroke.Stroke.{Stroke}
use Rattle.ds_strokes.specs.declared.stroke.Stroke.TheVariants as stroke
use Rattle.ds_strokes.specs.StrokeStep.{Operating, after_stroke, stroke_answer}
use Rattle.ds_terminal.specs.Terminal.{KeyTurn, key_turn, KeyReply, done, inhibited, ignored, sent, key_reply}

-- as of a key: where it sends, the answer to Read Modified
abbrev pub stroke_turn : Operating → Stroke → KeyTurn
stroke_turn o stroke = key_turn (after_stroke o stroke).screen (key_reply (stroke_answer o stroke) (after_stroke o stroke).screen)

-- the attention identifier of a stroke that has one, so that it may send
abbrev pub key_aid : Key → Option ℕ
key_aid (Attention aid) = Some aid
key_aid key = None

abbrev pub stroke_aid : Stroke → Option ℕ
stroke_aid (stroke.Key key) = key_aid key
stroke_aid stroke.Insert = None
stroke_aid stroke.Dup = None
stroke_aid stroke.FieldMark = None

-- insert mode after an attention key, by what became of it
abbrev pub inserts_after_attention : Bool → KeyReply → Bool
inserts_after_attention inserts (sent bytes) = false
inserts_after_attention inserts done = inserts
inserts_after_attention inserts inhibited = inserts
inserts_after_attention inserts ignored = inserts
