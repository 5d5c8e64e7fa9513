-- What `check` prints, as a function of its two inputs and of whether demos are printed, and its status.
use Rattle.std.specs.Prelude.{ℕ, List, [], ◌∷◌, codes, Result, Ok}
use Rattle.std.specs.List.{flat_map}
use Rattle.ds_codec.specs.Reading.{◌>>=◌}
use Rattle.scr_layout.specs.Layout.{Declaration}
use Rattle.scr_check.specs.declared.finding.Finding.{Finding}
use Rattle.scr_check.specs.Opening.{opening_of}
use Rattle.scr_check.specs.Findings.{answer_of}
use Rattle.cli_commands.specs.declared.fault.Fault.{Fault}
use Rattle.cli_commands.specs.declared.input.sizes.SizeLine.TheVariants.{Refused}
use Rattle.cli_commands.specs.declared.output.demo.Demos.{Demos}
use Rattle.cli_commands.specs.declared.status.Status.TheVariants.{Done, Findings}
use Rattle.cli_commands.specs.DemoLines.{asked, finding_lines}
use Rattle.cli_commands.specs.LayoutText.{layout_in}
use Rattle.cli_commands.specs.Printed.{Printed, printed, printed_or_fault}
use Rattle.cli_commands.specs.Records.{Records, no_records, take_record, records_in}
use Rattle.cli_commands.specs.Taking.{taken_in, beside}

-- `yes`, or the lines of each finding
abbrev pub printed_verdict : (Finding → List ℕ) → List Finding → Printed
printed_verdict lines [] = printed (codes "yes\n") Done
printed_verdict lines (finding ∷ findings) = printed (flat_map lines (finding ∷ findings)) Findings

-- demos go from the picture that the records open
abbrev pub printed_answer : Demos → Declaration → List (List ℕ) → Printed
printed_answer demos layout records = printed_verdict (finding_lines layout.entries (asked demos (opening_of layout records))) (answer_of layout records)

-- all that is told of the records of an input
abbrev pub findings_told : Declaration → List ℕ → Result (List Finding) Fault
findings_told layout records = records_in Refused records >>= λ told. Ok (answer_of layout told.records)

abbrev pub check_records : Demos → Declaration → List ℕ → Result Printed Fault
check_records demos layout records = records_in Refused records >>= λ told. Ok (printed_answer demos layout told.records)

abbrev pub check : Demos → List ℕ → List ℕ → Result Printed Fault
check demos text records = layout_in text >>= λ layout. check_records demos layout records

-- what `check` prints for a layout's text and records, and its status
abbrev pub printed_check : Demos → List ℕ → List ℕ → Printed
printed_check demos text records = printed_or_fault (check demos text records)

-- ---- as a program takes them, one record at a time

-- the records of an input, beside the layout
abbrev pub records_beside : Declaration → List ℕ → Result (Declaration × Records) Fault
records_beside layout input = taken_in (beside take_record) (layout, no_records Refused) input

abbrev pub findings_beside : Declaration → List ℕ → Result (List Finding) Fault
findings_beside layout input = records_beside layout input >>= λ both. Ok (answer_of both.0 both.1.records)
