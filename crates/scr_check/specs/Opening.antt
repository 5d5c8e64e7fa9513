-- Whether records lead to a screen that a layout can be laid on.
use Rattle.std.specs.Prelude.{ℕ, ◌+◌, Bool, true, false, not, ◌&&◌, ◌==◌, List, [], ◌∷◌, Option, Some, None, Result, Ok, Err, if◌then◌else◌}
use Rattle.ds_codec.specs.declared.size.Size.{Size}
use Rattle.ds_codec.specs.declared.refused.Refused as read
use Rattle.ds_codec.specs.declared.command.Command.{Command}
use Rattle.ds_codec.specs.declared.command.Command.TheVariants.{EraseWrite, EraseWriteAlternate, ReadBuffer, ReadModified, ReadModifiedAll, NoOperation}
use Rattle.ds_codec.specs.Same.{same_size}
use Rattle.ds_codec.specs.Record.{Message}
use Rattle.ds_codec.specs.Reading.{◌>>=◌, read_of}
use Rattle.ds_screen.specs.declared.lock.Lock.{Lock}
use Rattle.ds_screen.specs.declared.lock.Lock.TheVariants.{Free}
use Rattle.ds_screen.specs.declared.field.FieldAt.{FieldAt}
use Rattle.ds_screen.specs.declared.refused.Refused as shown
use Rattle.ds_screen.specs.Picture.{Picture}
use Rattle.ds_screen.specs.Fields.{fields_of}
use Rattle.ds_screen.specs.Records.{new_picture, shown_of}
use Rattle.scr_layout.specs.Layout.{Declaration}
use Rattle.ds_terminal.specs.declared.refused.Refused.TheVariants.{Read, Apply}
use Rattle.scr_check.specs.declared.finding.Finding.{Finding}
use Rattle.scr_check.specs.declared.finding.Finding.TheVariants.{RecordRefused, NoRecord, FirstNotErase, NotAWrite, KeyboardLocked, OtherSize, Unformatted}

-- Erase/Write and Erase/Write Alternate
abbrev pub erases : Command → Bool
erases (EraseWrite wcc) = true
erases (EraseWriteAlternate wcc) = true
erases command = false

-- every command but the reads and No-operation
abbrev pub writes : Command → Bool
writes ReadBuffer = false
writes ReadModified = false
writes ReadModifiedAll = false
writes NoOperation = false
writes command = true

-- the first record erases, and each one writes
abbrev pub command_fault : ℕ → Command → Option Finding
command_fault index command =
    if index == 0 && not (erases command) then Some FirstNotErase
    else (if writes command then None else Some (NotAWrite index))

-- the picture that a record leaves, or how it is refused
abbrev pub applied : ℕ → Result Picture shown.Refused → Result Picture Finding
applied index (Ok v) = Ok v
applied index (Err refused) = Err (RecordRefused index (Apply refused))

abbrev pub unless_found : {A : Type 0} → Option Finding → Result A Finding → Result A Finding
unless_found None others = others
unless_found (Some finding) others = Err finding

-- the picture that the record of this number leaves, or what stands against it: that it can't be read, its command,
-- that it can't be applied
abbrev pub taken : ℕ → Picture → Result Message read.Refused → Result Picture Finding
taken index v (Err refused) = Err (RecordRefused index (Read refused))
taken index v (Ok message) = unless_found (command_fault index message.command) (applied index (shown_of v message.command message.orders))

-- the records in turn, up to the first against which something stands
abbrev pub taken_from : ℕ → Picture → List (List ℕ) → Result Picture Finding
taken_from index v [] = Ok v
taken_from index v (bytes ∷ others) = taken index v (read_of v.geometry.mode bytes) >>= λ next. taken_from (index + 1) next others

abbrev pub is_free : Lock → Bool
is_free Free = true
is_free lock = false

abbrev pub is_none_of : List FieldAt → Bool
is_none_of [] = true
is_none_of (field ∷ fields) = false

-- the operator can type, on a screen of the layout's size, that has fields
abbrev pub ready : Size → Picture → Result Picture Finding
ready size v =
    if not (is_free v.lock) then Err KeyboardLocked
    else (if not (same_size v.size size) then Err (OtherSize v.size size)
    else (if is_none_of (fields_of v.cells) then Err Unformatted else Ok v))

-- the picture that all records leave on a new terminal of the layout's geometry, or the one finding that comes first
abbrev pub opening_of : Declaration → List (List ℕ) → Result Picture Finding
opening_of layout [] = Err NoRecord
opening_of layout (bytes ∷ others) = taken_from 0 (new_picture layout.geometry) (bytes ∷ others) >>= ready layout.size
