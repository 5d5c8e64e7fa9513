-- What `talk` reports, as a function of its layouts' texts and its records, and its status.
use Rattle.std.specs.Prelude.{ℕ, ◌+◌, List, [], ◌∷◌, ◌++◌, codes, length, take, slice_get, Option, Some, None, Result, Ok, Err}
use Rattle.std.specs.Fmt.{decimal}
use Rattle.std.specs.List.{flat_map}
use Rattle.ds_codec.specs.Reading.{◌>>=◌}
use Rattle.scr_layout.specs.Layout.{Declaration}
use Rattle.scr_check.specs.declared.finding.Finding.{Finding}
use Rattle.scr_check.specs.declared.traced.Traced.{Traced}
use Rattle.scr_check.specs.Walk.{Stop}
use Rattle.cli_commands.specs.declared.fault.Fault.{Fault}
use Rattle.cli_commands.specs.declared.output.demo.Demos.TheVariants.{Printed as Pressed}
use Rattle.cli_commands.specs.declared.status.Status.TheVariants.{Done, Findings}
use Rattle.cli_commands.specs.DemoLines.{asked, shown_on}
use Rattle.cli_commands.specs.Printed.{Printed, printed}
use Rattle.cli_commands.specs.Talked.{Judged, judged_talk}
use Rattle.cli_findings.specs.Lines.{data_line}
use Rattle.cli_findings.specs.Report.{or_refusal}
use Rattle.cli_reports.specs.declared.talk.TalkForm.{TalkForm}
use Rattle.cli_reports.specs.declared.talk.TalkForm.TheVariants.{Json, Explained}
use Rattle.cli_reports.specs.declared.talk_json.Span.{Span}
use Rattle.cli_reports.specs.Explain.{explained_lines}
use Rattle.cli_reports.specs.Numbers.{turn_numbers}
use Rattle.cli_reports.specs.Stop.{all_records, span_of, traced_in}
use Rattle.cli_reports.specs.TalkJson.{turn_line, yes_data, no_data}

-- ---- the findings of a turn

unfoldable pub turn_begin : ℕ → List ℕ
turn_begin turn = codes "turn " ++ (decimal turn ++ codes "\n")

-- a line for each, and one for the verdict
abbrev pub found_json : Declaration → List ℕ → ℕ → Span → List Traced → List ℕ
found_json layout input turns span findings =
    flat_map (turn_line layout (turn_numbers input) span) findings ++ data_line (no_data turns span.turn (length findings))

-- the turn's number, and each explained on the screen that these records leave
abbrev pub found_explained : Declaration → List (List ℕ) → ℕ → List Traced → List ℕ
found_explained layout records turn findings =
    turn_begin turn ++ flat_map (explained_lines layout (asked Pressed (shown_on layout records))) findings

abbrev pub found_report : TalkForm → Declaration → List ℕ → List (List (List ℕ)) → ℕ → List Finding → List ℕ
found_report Json layout input turns turn findings =
    found_json layout input (length turns) (span_of turns turn) (traced_in layout turns turn findings)
found_report Explained layout input turns turn findings =
    found_explained layout (all_records (take (turn + 1) turns)) turn (traced_in layout turns turn findings)

abbrev pub stop_report : TalkForm → Option Declaration → List ℕ → List (List (List ℕ)) → ℕ → List Finding → List ℕ
stop_report form None input turns turn findings = []
stop_report form (Some layout) input turns turn findings = found_report form layout input turns turn findings

-- ---- the report

abbrev pub yes_report : TalkForm → ℕ → List ℕ
yes_report Json turns = data_line (yes_data turns)
yes_report Explained turns = codes "yes\n"

-- that nothing stands against the turns, or the findings of the first that has some
abbrev pub stopped_report : TalkForm → List ℕ → Judged → Option Stop → Printed
stopped_report form input judged None = printed (yes_report form (length judged.turns)) Done
stopped_report form input judged (Some stop) =
    printed (stop_report form (slice_get judged.layouts stop.turn) input judged.turns stop.turn stop.findings) Findings

abbrev pub judged_report : TalkForm → List ℕ → Judged → Printed
judged_report form input judged = stopped_report form input judged judged.stop

abbrev pub told_report : TalkForm → List (List ℕ) → List ℕ → Result Printed Fault
told_report form texts input = judged_talk texts input >>= λ judged. Ok (judged_report form input judged)

-- an input that is refused is reported too, where tools read the report
abbrev pub talk_report : TalkForm → List (List ℕ) → List ℕ → Result Printed Fault
talk_report Json texts input = Ok (or_refusal (told_report Json texts input))
talk_report Explained texts input = told_report Explained texts input
