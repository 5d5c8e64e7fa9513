-- What `talk` reports as a log of SARIF, as a function of its layouts' texts, its records and their paths, and its status.
use Rattle.std.specs.Prelude.{ℕ, ◌+◌, List, [], ◌∷◌, ◌++◌, codes, map, take, slice_get, Option, Some, None, unwrap_or, Result, Ok, Err}
use Rattle.std.specs.Fmt.{decimal}
use Rattle.serde_json.specs.Written.{compact_text}
use Rattle.scr_layout.specs.declared.fault.LayoutFault.{LayoutFault}
use Rattle.scr_layout.specs.Layout.{Declaration}
use Rattle.scr_check.specs.declared.finding.Finding.{Finding}
use Rattle.scr_check.specs.declared.traced.Traced.{Traced}
use Rattle.scr_check.specs.Walk.{Stop}
use Rattle.cli_commands.specs.declared.fault.Fault.{Fault}
use Rattle.cli_commands.specs.declared.fault.Fault.TheVariants.{LayoutRefused, TurnLayoutRefused, OtherGeometry}
use Rattle.cli_commands.specs.declared.status.Status.{Status}
use Rattle.cli_commands.specs.declared.status.Status.TheVariants.{Done, Findings, BadInput}
use Rattle.cli_commands.specs.Lines.{within_limit}
use Rattle.cli_commands.specs.Printed.{Printed, printed}
use Rattle.cli_commands.specs.Talked.{Judged, judged_talk}
use Rattle.cli_findings.specs.declared.found.Pen.TheVariants.{Ignored}
use Rattle.cli_findings.specs.Facts.{record_told}
use Rattle.cli_findings.specs.Region.{line_in, line_of_fault}
use Rattle.cli_findings.specs.Sarif.{fronted_log_data, refusal_log_data}
use Rattle.cli_reports.specs.declared.blanked.Kept.{Kept}
use Rattle.cli_reports.specs.declared.blanked.Kept.TheVariants.{All, Own}
use Rattle.cli_reports.specs.Blanked.{turn_text}
use Rattle.cli_reports.specs.Stop.{traced_in}

-- ---- the findings of a turn

abbrev pub front_of : ℕ → List ℕ
front_of turn = codes "turn " ++ (decimal turn ++ codes ": ")

abbrev pub kept_by : Option ℕ → Kept
kept_by None = All
kept_by (Some index) = Own

-- a finding that tells its record by itself counts those of its turn, any other those of all
abbrev pub kept_for : List Traced → Kept
kept_for [] = All
kept_for (first ∷ findings) = kept_by (record_told first.finding)

-- their log over the lines of the input, each behind the turn's number
abbrev pub turn_log : List ℕ → Declaration → List ℕ → ℕ → List Traced → List ℕ
turn_log path layout input turn findings =
    compact_text (fronted_log_data Ignored (front_of turn) path layout (turn_text (kept_for findings) turn input) findings)

abbrev pub stop_log : List ℕ → Option Declaration → List ℕ → List (List (List ℕ)) → ℕ → List Finding → List ℕ
stop_log path None input turns turn findings = []
stop_log path (Some layout) input turns turn findings = turn_log path layout input turn (traced_in layout turns turn findings)

-- no result
abbrev pub yes_log : List ℕ → Option Declaration → List ℕ → List ℕ
yes_log path None input = []
yes_log path (Some layout) input = turn_log path layout input 0 []

abbrev pub ended_log : List ℕ → Status → Printed
ended_log text status = printed (text ++ codes "\n") status

abbrev pub stopped_log : List ℕ → List ℕ → Judged → Option Stop → Printed
stopped_log path input judged None = ended_log (yes_log path (slice_get judged.layouts 0) input) Done
stopped_log path input judged (Some stop) =
    ended_log (stop_log path (slice_get judged.layouts stop.turn) input judged.turns stop.turn stop.findings) Findings

abbrev pub judged_log : List ℕ → List ℕ → Judged → Printed
judged_log path input judged = stopped_log path input judged judged.stop

-- ---- an input that is refused

-- the path of this index, or another
abbrev pub named : List (List ℕ) → List ℕ → ℕ → List ℕ
named names path turn = unwrap_or (slice_get names turn) path

-- a layout is refused in its own file, all else in that of the records
abbrev pub refusal_path : List (List ℕ) → List ℕ → Fault → List ℕ
refusal_path names path (TurnLayoutRefused turn fault) = named names path turn
refusal_path names path (OtherGeometry turn) = named names path turn
refusal_path names path fault = path

abbrev pub text_line : Option (List ℕ) → LayoutFault → ℕ
text_line None fault = 1
text_line (Some text) fault = line_in (within_limit text) (LayoutRefused fault)

abbrev pub refusal_line : List (List ℕ) → Fault → ℕ
refusal_line texts (TurnLayoutRefused turn fault) = text_line (slice_get texts turn) fault
refusal_line texts fault = line_of_fault fault

abbrev pub refused_log : List (List ℕ) → List ℕ → List (List ℕ) → Fault → Printed
refused_log names path texts fault =
    ended_log (compact_text (refusal_log_data Ignored (refusal_path names path fault) (refusal_line texts fault) fault)) BadInput

-- ---- the log

abbrev pub log_of : List (List ℕ) → List ℕ → List (List ℕ) → List ℕ → Result Judged Fault → Printed
log_of names path texts input (Ok judged) = judged_log path input judged
log_of names path texts input (Err fault) = refused_log names path texts fault

abbrev pub printed_talk_log : List (List ℕ) → List ℕ → List (List ℕ) → List ℕ → Printed
printed_talk_log names path texts input = log_of names path texts input (judged_talk texts input)
