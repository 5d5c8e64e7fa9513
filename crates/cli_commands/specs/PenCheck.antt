-- What `check` prints where the pen is asked for, as a function of its two inputs and of whether demos are printed, and its status.
use Rattle.std.specs.Prelude.{ℕ, List, Result, Ok}
use Rattle.ds_codec.specs.Reading.{◌>>=◌}
use Rattle.scr_layout.specs.Layout.{Declaration}
use Rattle.scr_check.specs.Opening.{opening_of}
use Rattle.scr_check.specs.Pen.{answer_with_pen}
use Rattle.cli_commands.specs.declared.fault.Fault.{Fault}
use Rattle.cli_commands.specs.declared.input.sizes.SizeLine.TheVariants.{Refused}
use Rattle.cli_commands.specs.declared.output.demo.Demos.{Demos}
use Rattle.cli_commands.specs.Check.{printed_verdict}
use Rattle.cli_commands.specs.DemoLines.{asked, finding_lines}
use Rattle.cli_commands.specs.LayoutText.{layout_in}
use Rattle.cli_commands.specs.Printed.{Printed, printed_or_fault}
use Rattle.cli_commands.specs.Records.{records_in}

-- demos go from the picture that the records open; a field that may not be selected has none
abbrev pub printed_pen_answer : Demos → Declaration → List (List ℕ) → Printed
printed_pen_answer demos layout records =
    printed_verdict (finding_lines layout.entries (asked demos (opening_of layout records))) (answer_with_pen layout records)

abbrev pub check_pen_records : Demos → Declaration → List ℕ → Result Printed Fault
check_pen_records demos layout records = records_in Refused records >>= λ told. Ok (printed_pen_answer demos layout told.records)

abbrev pub check_pen : Demos → List ℕ → List ℕ → Result Printed Fault
check_pen demos text records = layout_in text >>= λ layout. check_pen_records demos layout records

abbrev pub printed_check_pen : Demos → List ℕ → List ℕ → Printed
printed_check_pen demos text records = printed_or_fault (check_pen demos text records)
