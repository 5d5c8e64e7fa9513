-- The report of a suite: a part for each screen, and the totals.
use Rattle.std.specs.Prelude.{ℕ, ◌==◌, List, [], ◌++◌, length, if◌then◌else◌}
use Rattle.std.specs.String.{string_bytes}
use Rattle.serde_json.specs.Data.{Data}
use Rattle.cli_commands.specs.declared.status.Status.{Status}
use Rattle.cli_commands.specs.declared.status.Status.TheVariants.{Done, Findings, BadInput}
use Rattle.cli_commands.specs.Printed.{Printed, printed}
use Rattle.cli_findings.specs.Results.{results_line, results_seen}
use Rattle.cli_suites.specs.declared.report.Form.{Form}
use Rattle.cli_suites.specs.declared.report.Form.TheVariants.{Text, Json, Junit, Sarif}
use Rattle.cli_suites.specs.declared.report.Report as held
use Rattle.cli_suites.specs.declared.count.Totals.{Totals}
use Rattle.cli_suites.specs.declared.settled.Verdict.{Verdict}
use Rattle.cli_suites.specs.declared.settled.Verdict.TheVariants.{Yes, No, Refused}
use Rattle.cli_suites.specs.Count.{plus}
use Rattle.cli_suites.specs.Json.{json_case, json_end}
use Rattle.cli_suites.specs.Junit.{junit_begin, junit_case, junit_end}
use Rattle.cli_suites.specs.Rule.{suite_rules}
use Rattle.cli_suites.specs.Settled.{Settled}
use Rattle.cli_suites.specs.Text.{accepted_lines, text_case, totals_line}

-- the parts of the screens, the lines of the accepted findings that came, the results of the log, and the totals
pub record Reported : Type 0 where
  pub text : List ℕ
  pub accepted : List ℕ
  pub results : List Data
  pub totals : Totals

abbrev pub report_seen : held.Report → Reported
report_seen report =
    record { text = string_bytes report.text; accepted = string_bytes report.accepted; results = results_seen report.results; totals = report.totals }

abbrev pub no_totals : Totals
no_totals = record { screens = 0; yes = 0; no = 0; refused = 0; findings = 0; accepted = 0 }

abbrev pub no_report : Reported
no_report = record { text = []; accepted = []; results = []; totals = no_totals }

-- one more of this verdict
abbrev pub counted_verdict : Verdict → Totals → Totals
counted_verdict Yes totals = record totals { yes = plus totals.yes 1 }
counted_verdict No totals = record totals { no = plus totals.no 1 }
counted_verdict Refused totals = record totals { refused = plus totals.refused 1 }

abbrev pub counted_in : Totals → Settled → Totals
counted_in totals settled =
    counted_verdict settled.verdict (record totals {
      screens = plus totals.screens 1;
      findings = plus totals.findings settled.findings;
      accepted = plus totals.accepted (length settled.came);
    })

-- the part of a screen; in the log its results are that
abbrev pub case_text : Form → List ℕ → Settled → List ℕ
case_text Text name settled = text_case name settled
case_text Json name settled = json_case name settled
case_text Junit name settled = junit_case name settled
case_text Sarif name settled = []

-- one more screen
abbrev pub add : Form → Reported → List ℕ → Settled → List Data → Reported
add form report name settled results =
    record {
      text = report.text ++ case_text form name settled;
      accepted = report.accepted ++ accepted_lines name settled.came;
      results = report.results ++ results;
      totals = counted_in report.totals settled;
    }

-- that of the worst screen
abbrev pub status_of : Totals → Status
status_of totals = if totals.refused == 0 then (if totals.findings == 0 then Done else Findings) else BadInput

abbrev pub text_end : Reported → List ℕ
text_end report = report.text ++ (report.accepted ++ totals_line report.totals)

abbrev pub json_lines : Reported → List ℕ
json_lines report = report.text ++ json_end report.totals

abbrev pub junit_text : Reported → List ℕ
junit_text report = junit_begin report.totals ++ (report.text ++ junit_end)

abbrev pub log_text : List Data → List ℕ
log_text results = results_line suite_rules results

abbrev pub end_text : Form → Reported → List ℕ
end_text Text report = text_end report
end_text Json report = json_lines report
end_text Junit report = junit_text report
end_text Sarif report = log_text report.results

abbrev pub printed_report : Form → Reported → Printed
printed_report form report = printed (end_text form report) (status_of report.totals)
