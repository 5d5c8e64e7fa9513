-- What `check` reports as a log of SARIF, as a function of its two inputs and of their paths, and its status.
use Rattle.std.specs.Prelude.{ℕ, List, Result, Ok, Err}
use Rattle.ds_codec.specs.Reading.{◌>>=◌}
use Rattle.scr_layout.specs.Layout.{Declaration}
use Rattle.scr_check.specs.declared.traced.Traced.{Traced}
use Rattle.cli_commands.specs.declared.fault.Fault.{Fault}
use Rattle.cli_commands.specs.declared.input.sizes.SizeLine.TheVariants.{Refused}
use Rattle.cli_commands.specs.declared.status.Status.TheVariants.{BadInput}
use Rattle.cli_commands.specs.LayoutText.{layout_in}
use Rattle.cli_commands.specs.Lines.{within_limit}
use Rattle.cli_commands.specs.Printed.{Printed, printed}
use Rattle.cli_commands.specs.Records.{records_in}
use Rattle.cli_findings.specs.declared.paths.Paths.{Paths}
use Rattle.cli_findings.specs.declared.found.Pen.{Pen}
use Rattle.cli_findings.specs.Lines.{data_line, found_in, status_of}
use Rattle.cli_findings.specs.Region.{line_in, line_of_fault}
use Rattle.cli_findings.specs.Sarif.{findings_log_data, refusal_log_data}

-- findings stand in the file of the records
abbrev pub log_findings : Pen → Paths → Declaration → List ℕ → List Traced → Printed
log_findings pen paths layout input findings = printed (data_line (findings_log_data pen paths.records.now layout input findings)) (status_of findings)

-- the input of this path is refused at a line
abbrev pub refused_log : Pen → List ℕ → ℕ → Fault → Printed
refused_log pen path line fault = printed (data_line (refusal_log_data pen path line fault)) BadInput

abbrev pub log_within : Pen → Paths → Declaration → List ℕ → Result Printed Fault
log_within pen paths layout text = records_in Refused text >>= λ told. Ok (log_findings pen paths layout text (found_in pen layout told.records))

-- records within their limit
abbrev pub log_records : Pen → Paths → Declaration → Result (List ℕ) Fault → Result Printed Fault
log_records pen paths layout input = input >>= λ text. log_within pen paths layout text

-- records that are refused are reported too, in their file
abbrev pub or_refused : Pen → List ℕ → Result Printed Fault → Printed
or_refused pen path (Ok answer) = answer
or_refused pen path (Err fault) = refused_log pen path (line_of_fault fault) fault

-- a layout that is refused is reported in its own file, and records aren't looked at
abbrev pub log_layout : Pen → Paths → Result (List ℕ) Fault → Result Declaration Fault → Result (List ℕ) Fault → Printed
log_layout pen paths text (Ok layout) input = or_refused pen paths.records.now (log_records pen paths layout input)
log_layout pen paths text (Err fault) input = refused_log pen paths.layout.now (line_in text fault) fault

abbrev pub printed_log : Pen → Paths → List ℕ → List ℕ → Printed
printed_log pen paths text input = log_layout pen paths (within_limit text) (layout_in text) (within_limit input)
