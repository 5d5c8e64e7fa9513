-- What `show` prints, as a function of its input.
use Rattle.std.specs.Prelude.{ℕ, List, Result, Ok}
use Rattle.ds_codec.specs.Reading.{◌>>=◌}
use Rattle.ds_screen.specs.Picture.{Picture}
use Rattle.ds_screen.specs.Records.{new_picture}
use Rattle.cli_commands.specs.declared.fault.Fault.{Fault}
use Rattle.cli_commands.specs.declared.input.sizes.SizeLine.TheVariants.{Allowed}
use Rattle.cli_commands.specs.declared.status.Status.TheVariants.{Done}
use Rattle.cli_commands.specs.Printed.{Printed, printed, printed_or_fault}
use Rattle.cli_commands.specs.Records.{Records, records_in}
use Rattle.cli_commands.specs.Screen.{screen_text}
use Rattle.cli_commands.specs.Shown.{shown_from}

-- the screen that records leave of a picture
abbrev pub show_from : Picture → List (List ℕ) → Result Printed Fault
show_from first records = shown_from first records >>= λ v. Ok (printed (screen_text v) Done)

-- the same of a new terminal's
abbrev pub show_told : Records → Result Printed Fault
show_told told = show_from (new_picture told.geometry) told.records

abbrev pub show : List ℕ → Result Printed Fault
show input = records_in Allowed input >>= show_told

-- what `show` prints for an input, and its status
abbrev pub printed_show : List ℕ → Printed
printed_show input = printed_or_fault (show input)
