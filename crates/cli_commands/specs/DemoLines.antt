-- The line of what is sent once the keys of a finding are pressed.
use Rattle.std.specs.Prelude.{ℕ, Bool, false, is_some, List, [], ◌++◌, codes, Option, Some, None, Result, Ok, Err}
use Rattle.ds_screen.specs.Picture.{Picture}
use Rattle.ds_screen.specs.Records.{new_picture}
use Rattle.ds_keys.specs.KeyRuns as keyed
use Rattle.ds_inbound.specs.Answer.{bytes_sent}
use Rattle.scr_layout.specs.Entry.{Declared}
use Rattle.scr_layout.specs.Layout.{Declaration}
use Rattle.scr_check.specs.declared.finding.Demo.{Demo}
use Rattle.scr_check.specs.declared.finding.Finding.{Finding}
use Rattle.scr_check.specs.Demos.{demo_keys}
use Rattle.scr_check.specs.FindingText.{demo_of, finding_text}
use Rattle.ds_terminal.specs.Runs.{RefusedRecord, all_shown}
use Rattle.cli_commands.specs.declared.output.demo.Demos.{Demos}
use Rattle.cli_commands.specs.declared.output.demo.Demos.TheVariants.{Omitted, Printed}
use Rattle.cli_commands.specs.Screen.{sent_line}

-- what the terminal sends once the demo's keys are pressed on a picture
abbrev pub bytes_replayed : Picture → Demo → List ℕ
bytes_replayed v demo = bytes_sent (keyed.after v (demo_keys demo)) false

abbrev pub sends_line : Picture → Demo → List ℕ
sends_line v demo = sent_line (codes "sends ") (bytes_replayed v demo)

-- the line of a demo from a picture, if there are both
abbrev pub sends_on : Option Picture → Option Demo → List ℕ
sends_on opened None = []
sends_on None (Some demo) = []
sends_on (Some v) (Some demo) = sends_line v demo

-- the line of a finding and, from a picture, what its keys send
abbrev pub finding_lines : List Declared → Option Picture → Finding → List ℕ
finding_lines entries opened finding = (finding_text entries finding ++ codes "\n") ++ sends_on opened (demo_of finding)

-- keys show the finding
abbrev pub has_keys : Finding → Bool
has_keys finding = is_some (demo_of finding)

-- the picture from which demos go, where they are printed
abbrev pub asked : {E : Type 0} → Demos → Result Picture E → Option Picture
asked Omitted opened = None
asked Printed (Ok v) = Some v
asked Printed (Err e) = None

-- ---- as the program holds it

-- the picture that the records leave on a new terminal of the layout's geometry
abbrev pub shown_on : Declaration → List (List ℕ) → Result Picture RefusedRecord
shown_on layout records = all_shown 0 (new_picture layout.geometry) records
