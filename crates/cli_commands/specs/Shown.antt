-- Records shown in turn on a new terminal.
use Rattle.std.specs.Prelude.{ℕ, List, Result, Ok, Err}
use Rattle.ds_codec.specs.Geometry.{Sizes}
use Rattle.ds_screen.specs.Picture.{Picture}
use Rattle.ds_screen.specs.Records.{new_picture}
use Rattle.ds_terminal.specs.Runs.{RefusedRecord, all_shown}
use Rattle.cli_commands.specs.declared.fault.Fault.{Fault}
use Rattle.cli_commands.specs.declared.fault.Fault.TheVariants.{RecordRefused}

abbrev pub record_fault : {A : Type 0} → Result A RefusedRecord → Result A Fault
record_fault (Ok v) = Ok v
record_fault (Err e) = Err (RecordRefused e.index e.why)

-- the picture after all records from one on, or the first that is refused
abbrev pub shown_from : Picture → List (List ℕ) → Result Picture Fault
shown_from v records = record_fault (all_shown 0 v records)

-- the same from a new terminal's
abbrev pub shown_on : Sizes → List (List ℕ) → Result Picture Fault
shown_on geometry records = shown_from (new_picture geometry) records
