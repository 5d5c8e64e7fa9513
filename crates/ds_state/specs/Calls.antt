-- What each call on a state does: what it tells, and which state it leaves. Bytes that are no state stay as they are.
use Rattle.std.specs.Prelude.{◌≡◌, ◌≢◌, ℕ, Bool, true, false, length, List, [], ◌∷◌, Option, Some, None, Result, Ok, Err, if◌then◌else◌}
use Rattle.std.specs.List.{flat_map}
use Rattle.ds_codec.specs.declared.cell.Cell.{Cell}
use Rattle.ds_codec.specs.declared.cell.Cell.TheVariants.{Field, Char}
use Rattle.ds_codec.specs.declared.command.Command.{Command}
use Rattle.ds_codec.specs.declared.command.Command.TheVariants as commands
use Rattle.ds_codec.specs.declared.refused.Refused as codec
use Rattle.ds_codec.specs.declared.size.Size.{Size}
use Rattle.ds_codec.specs.Character.{Glyph}
use Rattle.ds_codec.specs.Geometry.{Sizes}
use Rattle.ds_codec.specs.Order.{Site}
use Rattle.ds_codec.specs.Reading.{read_of}
use Rattle.ds_codec.specs.Record.{Message}
use Rattle.ds_keys.specs.declared.key.Key.{Key}
use Rattle.ds_keys.specs.declared.pressed.Pressed.{Pressed}
use Rattle.ds_keys.specs.KeyRuns.{after_key, answer_of}
use Rattle.ds_screen.specs.declared.effect.Effect.{Effect}
use Rattle.ds_screen.specs.declared.lock.Lock.{Lock}
use Rattle.ds_screen.specs.declared.refused.Refused as screen
use Rattle.ds_screen.specs.Picture.{Picture}
use Rattle.ds_screen.specs.Records.{new_picture, shown_of, told_of}
use Rattle.ds_terminal.specs.declared.refused.Refused.TheVariants.{Read, Apply}
use Rattle.ds_terminal.specs.Terminal.{received}
use Rattle.ds_state.specs.declared.applied.Applied.{Applied}
use Rattle.ds_state.specs.declared.applied.Applied.TheVariants as told
use Rattle.ds_state.specs.declared.reading.Status.{Status}
use Rattle.ds_state.specs.State.{IsState, Opens, most_bytes}

-- ---- a new terminal

-- its state, where the bytes are as many
abbrev pub Makes : Sizes → List ℕ → Bool → List ℕ → Type 0
Makes geometry old true new = IsState new (new_picture geometry)
Makes geometry old false new = (new ≡ old) × (length old ≢ most_bytes geometry)

-- ---- keys

-- the key's answer, and the state of what it leaves
abbrev pub Presses : Key → List ℕ → Option Pressed → List ℕ → Type 0
Presses key old None new = (new ≡ old) × Opens old None
Presses key old (Some answer) new = (v : Picture) × IsState old v × (answer ≡ answer_of v key) × IsState new (after_key v key)

-- ---- records

-- a write is shown, or refused
abbrev pub told_shown : Effect → Result Picture screen.Refused → Applied
told_shown effect (Ok after) = told.Shown effect
told_shown effect (Err why) = told.Refused (Apply why)

-- by its command: a read is told as that
abbrev pub told_obeyed : Picture → Command → List Site → Applied
told_obeyed v commands.ReadBuffer orders = told.ReadBuffer
told_obeyed v commands.ReadModified orders = told.ReadModified
told_obeyed v commands.ReadModifiedAll orders = told.ReadModifiedAll
told_obeyed v commands.NoOperation orders = told.Nothing
told_obeyed v command orders = told_shown (told_of command) (shown_of v command orders)

abbrev pub told_as : Picture → Result Message codec.Refused → Applied
told_as v (Ok message) = told_obeyed v message.command message.orders
told_as v (Err why) = told.Refused (Read why)

-- what becomes of a record's bytes
abbrev pub told_by : Picture → List ℕ → Applied
told_by v bytes = told_as v (read_of v.geometry.mode bytes)

-- what becomes of the record, and the state of what the terminal's own call leaves: after a refusal and a read that is the one before
abbrev pub Applies : List ℕ → List ℕ → Option Applied → List ℕ → Type 0
Applies bytes old None new = (new ≡ old) × Opens old None
Applies bytes old (Some answer) new =
    (v : Picture) × IsState old v × (answer ≡ told_by v bytes) × IsState new (received v bytes).after

-- ---- what is read of a state

-- what a function tells of the picture whose state the bytes are
abbrev pub Reads : {A : Type 0} → (Picture → A) → List ℕ → Option A → Type 0
Reads tells bytes None = Opens bytes None
Reads tells bytes (Some answer) = (v : Picture) × IsState bytes v × (answer ≡ tells v)

abbrev pub status_of : Picture → Status
status_of v = record { size = v.size; cursor = v.cursor; lock = v.lock; aid = v.aid }

-- 0 and the code of a character, 1 and that of one of the alternate set, 2 and the six bits of an attribute
abbrev pub character_pair : Glyph → List ℕ
character_pair character = (if character.alt then 1 else 0) ∷ character.code ∷ []

abbrev pub cell_pair : Cell → List ℕ
cell_pair (Char character) = character_pair character
cell_pair (Field attribute) = 2 ∷ attribute ∷ []

-- two bytes for each position
abbrev pub cell_pairs : List Cell → List ℕ
cell_pairs cells = flat_map cell_pair cells
