-- What `check` reports for tools, as a function of its two inputs, and its status.
use Rattle.std.specs.Prelude.{ℕ, List, [], ◌∷◌, ◌++◌, length, codes, Option, Result, Ok, Err}
use Rattle.std.specs.List.{flat_map}
use Rattle.serde_json.specs.Data.{Data, number, unsigned, string, object, member, no_members}
use Rattle.ds_codec.specs.Reading.{◌>>=◌}
use Rattle.ds_screen.specs.Picture.{Picture}
use Rattle.scr_layout.specs.Layout.{Declaration}
use Rattle.scr_check.specs.declared.traced.Traced.{Traced}
use Rattle.cli_commands.specs.declared.fault.Fault.{Fault}
use Rattle.cli_commands.specs.declared.input.sizes.SizeLine.TheVariants.{Refused}
use Rattle.cli_commands.specs.declared.output.demo.Demos.TheVariants.{Printed as Pressed}
use Rattle.cli_commands.specs.declared.status.Status.TheVariants.{BadInput}
use Rattle.cli_commands.specs.DemoLines.{asked, shown_on}
use Rattle.cli_commands.specs.Fault.{fault_text}
use Rattle.cli_commands.specs.LayoutText.{layout_in}
use Rattle.cli_commands.specs.Lines.{within_limit}
use Rattle.cli_commands.specs.Printed.{Printed, printed}
use Rattle.cli_commands.specs.Records.{records_in}
use Rattle.cli_findings.specs.Members.{finding_data}
use Rattle.cli_findings.specs.RecordLine.{record_numbers}
use Rattle.cli_findings.specs.declared.report.Report.{Report}
use Rattle.cli_findings.specs.declared.report.Report.TheVariants.{Json, Sarif}
use Rattle.cli_findings.specs.declared.found.Pen.{Pen}
use Rattle.cli_findings.specs.Lines.{data_line, found_in, status_of}
use Rattle.cli_findings.specs.Log.{printed_log}

-- ---- lines

-- the line of a finding, of records on these lines that leave this picture
abbrev pub finding_line : Declaration → List ℕ → Option Picture → Traced → List ℕ
finding_line layout numbers opened finding = data_line (finding_data layout numbers opened finding)

abbrev pub verdict_word : List Traced → List ℕ
verdict_word [] = codes "yes"
verdict_word (finding ∷ findings) = codes "no"

-- how many findings, records and fields there are, and the verdict; the fields are the layout's entries
abbrev pub verdict_data : ℕ → ℕ → List Traced → Data
verdict_data fields records findings =
    object (member (codes "fields") (number (unsigned fields))
    (member (codes "findings") (number (unsigned (length findings)))
    (member (codes "records") (number (unsigned records)) (member (codes "verdict") (string (verdict_word findings)) no_members))))

-- the words of what is wrong with an input
abbrev pub refusal_data : Fault → Data
refusal_data fault = object (member (codes "verdict") (string (codes "refused")) (member (codes "words") (string (fault_text fault)) no_members))

-- ---- the report

-- a line for each finding, whose keys are pressed on the picture that the records leave
abbrev pub pressed_lines : Declaration → List ℕ → List (List ℕ) → List Traced → List ℕ
pressed_lines layout input records findings =
    flat_map (finding_line layout (record_numbers input) (asked Pressed (shown_on layout records))) findings

-- these lines, and one for the verdict
abbrev pub report_findings : Declaration → List ℕ → List (List ℕ) → List Traced → Printed
report_findings layout input records findings =
    printed (pressed_lines layout input records findings ++ data_line (verdict_data (length layout.entries) (length records) findings))
    (status_of findings)

abbrev pub report_within : Pen → Declaration → List ℕ → Result Printed Fault
report_within pen layout text = records_in Refused text >>= λ told. Ok (report_findings layout text told.records (found_in pen layout told.records))

-- a longer input is not looked at
abbrev pub report_records : Pen → Declaration → List ℕ → Result Printed Fault
report_records pen layout input = within_limit input >>= λ text. report_within pen layout text

-- the report of a layout's text and of records, or what is wrong with one of them
abbrev pub report : Pen → List ℕ → List ℕ → Result Printed Fault
report pen text input = layout_in text >>= λ layout. report_records pen layout input

-- an input that is refused is reported too
abbrev pub or_refusal : Result Printed Fault → Printed
or_refusal (Ok answer) = answer
or_refusal (Err fault) = printed (data_line (refusal_data fault)) BadInput

-- what is reported for a layout's text and records, and the status
abbrev pub printed_report : Pen → Report → List ℕ → List ℕ → Printed
printed_report pen Json text input = or_refusal (report pen text input)
printed_report pen (Sarif paths) text input = printed_log pen paths text input
