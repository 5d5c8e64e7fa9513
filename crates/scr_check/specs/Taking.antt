-- Records in turn, under whatever rule looks at each one before it is applied.
use Rattle.std.specs.Prelude.{◌≡◌, ℕ, ◌+◌, ◌⊎◌, List, [], ◌∷◌, Option, Some, None, Result, Ok, Err}
use Rattle.ds_codec.specs.declared.refused.Refused as read
use Rattle.ds_codec.specs.declared.command.Command.{Command}
use Rattle.ds_codec.specs.Order.{Site}
use Rattle.ds_codec.specs.Record.{Message}
use Rattle.ds_codec.specs.Reading.{◌>>=◌, read_of}
use Rattle.ds_screen.specs.declared.refused.Refused as screen
use Rattle.ds_screen.specs.Picture.{Picture}
use Rattle.ds_screen.specs.Outline.{Outlined, IsOutlineOf}
use Rattle.ds_screen.specs.Records.{shown_of}
use Rattle.ds_terminal.specs.declared.refused.Refused.TheVariants.{Read, Apply}
use Rattle.scr_check.specs.declared.finding.Finding.{Finding}
use Rattle.scr_check.specs.declared.finding.Finding.TheVariants.{RecordRefused}
use Rattle.scr_check.specs.Opening.{applied, unless_found}

-- what the record of a number, with a command and orders, is at fault for before it is applied
abbrev pub Fault : Type 0
Fault = ℕ → Command → List Site → Option Finding

-- what was read as the record of this number led from one state to the other, or this stands against it, and the state
-- is as it was: that it can't be read, what it is at fault for, that it can't be applied
abbrev pub TakesBy : {T : Type 0} → Fault → (T → Message → T → Type 0) → (T → Message → screen.Refused → Type 0) → ℕ → Result Message read.Refused → T → Result (Unit {0}) Finding → T → Type 0
TakesBy fault leads refuses index (Err refused) old result new =
    (result ≡ Err (RecordRefused index (Read refused))) × (new ≡ old)
TakesBy fault leads refuses index (Ok message) old (Ok done) new =
    (fault index message.command message.orders ≡ None) × leads old message new
TakesBy fault leads refuses index (Ok message) old (Err finding) new =
    ((fault index message.command message.orders ≡ Some finding)
    ⊎ ((fault index message.command message.orders ≡ None)
    × ((why : screen.Refused) × refuses old message why × (finding ≡ RecordRefused index (Apply why)))))
    × (new ≡ old)

-- ---- on pictures

-- the picture that the record of this number leaves, or what stands against it
abbrev pub taken_by : Fault → ℕ → Picture → Result Message read.Refused → Result Picture Finding
taken_by fault index v (Err refused) = Err (RecordRefused index (Read refused))
taken_by fault index v (Ok message) =
    unless_found (fault index message.command message.orders) (applied index (shown_of v message.command message.orders))

-- the records in turn, up to the first against which something stands
abbrev pub all_taken_by : Fault → ℕ → Picture → List (List ℕ) → Result Picture Finding
all_taken_by fault index v [] = Ok v
all_taken_by fault index v (bytes ∷ others) =
    taken_by fault index v (read_of v.geometry.mode bytes) >>= λ next. all_taken_by fault (index + 1) next others

-- whatever picture it outlined, the record led to the one that it outlines, or something stands against it
abbrev pub TakesOn : Fault → Outlined → Outlined → ℕ → List ℕ → Result (Unit {0}) Finding → Type 0
TakesOn fault old new index bytes (Ok done) =
    (v : Picture) → IsOutlineOf old v
    → (w : Picture) × (taken_by fault index v (read_of v.geometry.mode bytes) ≡ Ok w) × IsOutlineOf new w
TakesOn fault old new index bytes (Err finding) =
    (v : Picture) → IsOutlineOf old v → taken_by fault index v (read_of v.geometry.mode bytes) ≡ Err finding

-- the same of all records
abbrev pub TakesAllOn : Fault → Outlined → Outlined → List (List ℕ) → Result (Unit {0}) Finding → Type 0
TakesAllOn fault old new records (Ok done) =
    (v : Picture) → IsOutlineOf old v → (w : Picture) × (all_taken_by fault 0 v records ≡ Ok w) × IsOutlineOf new w
TakesAllOn fault old new records (Err finding) =
    (v : Picture) → IsOutlineOf old v → all_taken_by fault 0 v records ≡ Err finding
