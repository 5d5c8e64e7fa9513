-- What is found of a dialogue as results of a log: those of the first turn that has findings.
use Rattle.std.specs.Prelude.{ℕ, List, [], slice_get, Option, Some, None, Result, Ok}
use Rattle.serde_json.specs.Data.{Data}
use Rattle.ds_codec.specs.Reading.{◌>>=◌}
use Rattle.scr_layout.specs.Layout.{Declaration}
use Rattle.scr_check.specs.declared.finding.Finding.{Finding}
use Rattle.scr_check.specs.declared.traced.Traced.{Traced}
use Rattle.scr_check.specs.Walk.{Stop}
use Rattle.cli_commands.specs.declared.fault.Fault.{Fault}
use Rattle.cli_commands.specs.Talked.{Judged, judged_talk}
use Rattle.cli_findings.specs.Results.{found_results}
use Rattle.cli_reports.specs.Blanked.{turn_text}
use Rattle.cli_reports.specs.Stop.{traced_in}
use Rattle.cli_reports.specs.TalkLog.{front_of, kept_for}

-- each behind the turn's number, at the lines of the whole input
abbrev pub turn_results : List ℕ → Declaration → List ℕ → ℕ → List Traced → List Data
turn_results path layout input turn findings = found_results (front_of turn) path layout (turn_text (kept_for findings) turn input) findings

abbrev pub stop_results : List ℕ → Option Declaration → List ℕ → List (List (List ℕ)) → ℕ → List Finding → List Data
stop_results path None input turns turn findings = []
stop_results path (Some layout) input turns turn findings = turn_results path layout input turn (traced_in layout turns turn findings)

abbrev pub stopped_results : List ℕ → List ℕ → Judged → Option Stop → List Data
stopped_results path input judged None = []
stopped_results path input judged (Some stop) = stop_results path (slice_get judged.layouts stop.turn) input judged.turns stop.turn stop.findings

-- the faults are those of `talk`
abbrev pub talk_results : List ℕ → List (List ℕ) → List ℕ → Result (List Data) Fault
talk_results path texts input = judged_talk texts input >>= λ judged. Ok (stopped_results path input judged judged.stop)
