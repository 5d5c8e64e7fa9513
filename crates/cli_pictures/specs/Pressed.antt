-- The screen that keys leave, in a form, as a function of the texts of records and of keys.
use Rattle.std.specs.Prelude.{ℕ, List, Result, Ok}
use Rattle.ds_codec.specs.Reading.{◌>>=◌}
use Rattle.ds_keys.specs.declared.key.Key.{Key}
use Rattle.ds_keys.specs.KeyRuns.{after}
use Rattle.ds_screen.specs.Picture.{Picture}
use Rattle.ds_screen.specs.Records.{new_picture}
use Rattle.cli_commands.specs.declared.fault.Fault.{Fault}
use Rattle.cli_commands.specs.declared.input.sizes.SizeLine.TheVariants.{Allowed}
use Rattle.cli_commands.specs.declared.status.Status.TheVariants.{Done}
use Rattle.cli_commands.specs.Keys.{keys_in}
use Rattle.cli_commands.specs.Printed.{Printed, printed, printed_or_fault}
use Rattle.cli_commands.specs.Records.{Records, records_in}
use Rattle.cli_commands.specs.Shown.{shown_from}
use Rattle.cli_pictures.specs.declared.drawing.Drawing.{Drawing}
use Rattle.cli_pictures.specs.Picture.{drawn}

-- keys that are pressed in turn on the screen that records leave of a picture
abbrev pub pressed_from : Drawing → Picture → List (List ℕ) → List Key → Result Printed Fault
pressed_from drawing first records keys = shown_from first records >>= λ v. Ok (printed (drawn drawing (after v keys)) Done)

-- the same of a new terminal's
abbrev pub pressed_told : Drawing → Records → List Key → Result Printed Fault
pressed_told drawing told keys = pressed_from drawing (new_picture told.geometry) told.records keys

abbrev pub pressed_keys : Drawing → Records → List ℕ → Result Printed Fault
pressed_keys drawing told lines = keys_in lines >>= pressed_told drawing told

abbrev pub pressed : Drawing → List ℕ → List ℕ → Result Printed Fault
pressed drawing records lines = records_in Allowed records >>= λ told. pressed_keys drawing told lines

-- what is told of records and keys, and its status
abbrev pub printed_pressed : Drawing → List ℕ → List ℕ → Printed
printed_pressed drawing records keys = printed_or_fault (pressed drawing records keys)
