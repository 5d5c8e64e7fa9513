-- Keys, effects and statuses as numbers.
use Rattle.std.specs.Prelude.{ℕ, Bool, true, false, ◌==◌, Option, Some, None, if◌then◌else◌}
use Rattle.ds_codec.specs.declared.refused.Why as codec
use Rattle.ds_codec.specs.declared.refused.Why.TheVariants as reads
use Rattle.ds_codec.specs.declared.size.Mode.{Mode}
use Rattle.ds_codec.specs.declared.size.Mode.TheVariants.{Bits14, Bits16}
use Rattle.ds_codec.specs.declared.size.Size.{Size}
use Rattle.ds_codec.specs.Aid.{is_aid}
use Rattle.ds_codec.specs.Geometry.{Sizes, geometry_of}
use Rattle.ds_keys.specs.declared.key.Key.{Key}
use Rattle.ds_keys.specs.declared.key.Key.TheVariants.{Typed, Left, Right, Up, Down, Tab, BackTab, NewLine, Home, EraseEof, EraseInput, Delete, Reset, Attention}
use Rattle.ds_keys.specs.declared.pressed.Pressed.{Pressed}
use Rattle.ds_keys.specs.declared.pressed.Pressed.TheVariants.{Done, Inhibited, Ignored, Sent}
use Rattle.ds_screen.specs.declared.lock.Lock.{Lock}
use Rattle.ds_screen.specs.declared.lock.Lock.TheVariants.{Free, Waiting, Error}
use Rattle.ds_screen.specs.declared.refused.Why as screen
use Rattle.ds_screen.specs.declared.refused.Why.TheVariants as applies
use Rattle.ds_state.specs.declared.applied.Applied.{Applied}
use Rattle.ds_state.specs.declared.applied.Applied.TheVariants as told
use Rattle.ds_state.specs.declared.reading.Status.{Status}
use Rattle.ds_state.specs.State.{most_bytes}
use Rattle.ds_terminal.specs.declared.refused.Refused.{Refused}
use Rattle.ds_terminal.specs.declared.refused.Refused.TheVariants.{Read, Apply}
use Rattle.terminal_calls.specs.declared.applied.Effect.{Effect}
use Rattle.terminal_calls.specs.declared.status.TerminalStatus.{TerminalStatus}

-- ---- sizes

abbrev pub mode_of : Bool → Mode
mode_of true = Bits16
mode_of false = Bits14

-- addresses are of 16 bits where that is asked for
abbrev pub geometry_told : Size → Size → Bool → Option Sizes
geometry_told default alternate wide = geometry_of default alternate (mode_of wide)

abbrev pub length_of : Option Sizes → ℕ
length_of None = 0
length_of (Some sizes) = most_bytes sizes

-- ---- keys

abbrev pub moving_key : ℕ → Option Key
moving_key kind =
    if kind == 1 then Some Left else (if kind == 2 then Some Right else (if kind == 3 then Some Up else (if kind == 4 then Some Down
    else (if kind == 5 then Some Tab else (if kind == 6 then Some BackTab else (if kind == 7 then Some NewLine else (if kind == 8 then Some Home else None)))))))

abbrev pub editing_key : ℕ → Option Key
editing_key kind =
    if kind == 9 then Some EraseEof else (if kind == 10 then Some EraseInput else (if kind == 11 then Some Delete else (if kind == 12 then Some Reset else None)))

abbrev pub first_key : Option Key → Option Key → Option Key
first_key None other = other
first_key (Some key) other = Some key

-- 0 types the code, 13 is the attention key of the identifier, 1 to 12 are the others
abbrev pub key_at : ℕ → ℕ → Option Key
key_at kind code =
    if kind == 0 then Some (Typed code)
    else (if kind == 13 then (if is_aid code then Some (Attention code) else None) else first_key (moving_key kind) (editing_key kind))

abbrev pub pressed_code : Pressed → ℕ
pressed_code Done = 0
pressed_code Inhibited = 1
pressed_code Ignored = 2
pressed_code (Sent aid) = 3

-- ---- records

-- the numbers that are printed: O1 to O10, and A1 to A3
abbrev pub read_number : codec.Why → ℕ
read_number reads.Empty = 1
read_number reads.UnknownCommand = 2
read_number reads.StructuredField = 3
read_number reads.NoWcc = 4
read_number reads.UnknownOrder = 5
read_number reads.Truncated = 6
read_number reads.ReservedAddress = 7
read_number reads.BadType = 8
read_number reads.BadCharacter = 9
read_number reads.Trailing = 10

abbrev pub apply_number : screen.Why → ℕ
apply_number applies.AddressOutside = 1
apply_number applies.NoFieldHere = 2
apply_number applies.NotAWrite = 3

abbrev pub refused_effect : Refused → Effect
refused_effect (Read fault) = record { kind = 5; alarm = false; restored = false; letter = 0x4F; number = read_number fault.why; at = fault.at }
refused_effect (Apply fault) = record { kind = 5; alarm = false; restored = false; letter = 0x41; number = apply_number fault.why; at = fault.at }

abbrev pub plain_effect : ℕ → Effect
plain_effect kind = record { kind = kind; alarm = false; restored = false; letter = 0; number = 0; at = 0 }

abbrev pub effect_of : Applied → Effect
effect_of (told.Shown shown) = record { kind = 0; alarm = shown.alarm; restored = shown.restored; letter = 0; number = 0; at = 0 }
effect_of told.ReadBuffer = plain_effect 1
effect_of told.ReadModified = plain_effect 2
effect_of told.ReadModifiedAll = plain_effect 3
effect_of told.Nothing = plain_effect 4
effect_of (told.Refused refused) = refused_effect refused

abbrev pub effect_code : Applied → ℕ
effect_code (told.Refused refused) = 1
effect_code answer = 0

-- ---- status

abbrev pub lock_code : Lock → ℕ
lock_code Free = 0
lock_code Waiting = 1
lock_code Error = 2

abbrev pub status_told : Status → TerminalStatus
status_told status = record { rows = status.size.rows; columns = status.size.cols; cursor = status.cursor; lock = lock_code status.lock; aid = status.aid }
