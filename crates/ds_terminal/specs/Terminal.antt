-- What one record and one key do to a terminal: the picture that it shows afterwards, and what it replies. Where memory
-- for the bytes of a reply was refused, there is no reply and the picture is as before.
use Rattle.std.specs.Prelude.{ℕ, Bool, true, false, List, Result, Ok, Err}
use Rattle.ds_codec.specs.declared.command.Command.{Command}
use Rattle.ds_codec.specs.declared.command.Command.TheVariants.{ReadBuffer, ReadModified, ReadModifiedAll, NoOperation}
use Rattle.ds_codec.specs.declared.refused.Refused as codec
use Rattle.ds_codec.specs.Order.{Site}
use Rattle.ds_codec.specs.Record.{Message}
use Rattle.ds_codec.specs.Reading.{read_of}
use Rattle.ds_screen.specs.declared.effect.Effect.{Effect}
use Rattle.ds_screen.specs.declared.lock.Lock.{Lock}
use Rattle.ds_screen.specs.declared.lock.Lock.TheVariants.{Free, Waiting, Error}
use Rattle.ds_screen.specs.declared.refused.Refused as screen
use Rattle.ds_screen.specs.Picture.{Picture}
use Rattle.ds_screen.specs.Records.{shown_of, told_of}
use Rattle.ds_keys.specs.declared.key.Key.{Key}
use Rattle.ds_keys.specs.declared.pressed.Pressed.{Pressed}
use Rattle.ds_keys.specs.declared.pressed.Pressed.TheVariants.{Done, Inhibited, Ignored, Sent}
use Rattle.ds_keys.specs.KeyRuns.{after_key, answer_of}
use Rattle.ds_inbound.specs.Answer.{bytes_sent, buffer_of}
use Rattle.ds_terminal.specs.declared.refused.Refused.{Refused}
use Rattle.ds_terminal.specs.declared.refused.Refused.TheVariants.{Read, Apply}

-- ---- records

-- what becomes of a record: it is shown, a read is answered by bytes, No-operation does nothing, or it is refused
pub data Reply : Type 0 where
  shown : (effect : Effect) → Reply
  answered : (bytes : List ℕ) → Reply
  nothing : Reply
  refused : (why : Refused) → Reply

-- a read, whose answer takes memory
abbrev pub IsAnswered : Reply → Type 0
IsAnswered (answered bytes) = Unit {0}
IsAnswered reply = ⊥

pub record Turn : Type 0 where
  pub after : Picture
  pub reply : Reply

abbrev pub turn : Picture → Reply → Turn
turn after reply = record { after = after; reply = reply }

abbrev pub shown_turn : Picture → Effect → Result Picture screen.Refused → Turn
shown_turn v effect (Ok after) = turn after (shown effect)
shown_turn v effect (Err why) = turn v (refused (Apply why))

-- a record that was read, by its command
abbrev pub obeyed : Picture → Command → List Site → Turn
obeyed v ReadBuffer orders = turn v (answered (buffer_of v))
obeyed v ReadModified orders = turn v (answered (bytes_sent v false))
obeyed v ReadModifiedAll orders = turn v (answered (bytes_sent v true))
obeyed v NoOperation orders = turn v nothing
obeyed v command orders = shown_turn v (told_of command) (shown_of v command orders)

abbrev pub received_as : Picture → Result Message codec.Refused → Turn
received_as v (Ok message) = obeyed v message.command message.orders
received_as v (Err why) = turn v (refused (Read why))

-- a record as bytes
abbrev pub received : Picture → List ℕ → Turn
received v bytes = received_as v (read_of v.geometry.mode bytes)

-- ---- keys

-- what becomes of a key
pub data KeyReply : Type 0 where
  done : KeyReply
  inhibited : KeyReply
  ignored : KeyReply
  sent : (bytes : List ℕ) → KeyReply

-- the keyboard takes no attention key
abbrev pub is_locked : Lock → Bool
is_locked Free = false
is_locked Waiting = true
is_locked Error = true

-- a key that sends, which takes memory
abbrev pub IsSent : KeyReply → Type 0
IsSent (sent bytes) = Unit {0}
IsSent reply = ⊥

pub record KeyTurn : Type 0 where
  pub after : Picture
  pub reply : KeyReply

abbrev pub key_turn : Picture → KeyReply → KeyTurn
key_turn after reply = record { after = after; reply = reply }

-- the reply to a key that leaves this picture: where it sends, the answer to Read Modified
abbrev pub key_reply : Pressed → Picture → KeyReply
key_reply Done v = done
key_reply Inhibited v = inhibited
key_reply Ignored v = ignored
key_reply (Sent aid) v = sent (bytes_sent v false)

abbrev pub pressed : Picture → Key → KeyTurn
pressed v key = key_turn (after_key v key) (key_reply (answer_of v key) (after_key v key))
