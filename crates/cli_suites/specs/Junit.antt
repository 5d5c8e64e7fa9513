-- The report of a suite as the XML that readers of JUnit reports take.
use Rattle.std.specs.Prelude.{ℕ, codes, List, [], ◌∷◌, ◌++◌}
use Rattle.std.specs.Fmt.{decimal}
use Rattle.std.specs.List.{flat_map}
use Rattle.cli_suites.specs.declared.count.Totals.{Totals}
use Rattle.cli_suites.specs.declared.settled.Verdict.{Verdict}
use Rattle.cli_suites.specs.declared.settled.Verdict.TheVariants.{Yes, No, Refused}
use Rattle.cli_suites.specs.Escaped.{escaped}
use Rattle.cli_suites.specs.Settled.{Settled}
use Rattle.cli_suites.specs.Text.{counted_words}

abbrev pub escaped_line : List ℕ → List ℕ
escaped_line line = escaped line ++ codes "\n"

-- ---- a test case

unfoldable pub failure_begin : ℕ → List ℕ
failure_begin findings = codes "<failure message=\"" ++ (counted_words findings (codes "finding") ++ codes "\">")

unfoldable pub failed_part : Settled → List ℕ
failed_part settled = failure_begin settled.findings ++ (flat_map escaped_line settled.lines ++ codes "</failure>\n")

unfoldable pub refused_part : Settled → List ℕ
refused_part settled = codes "<error message=\"refused\">" ++ (flat_map escaped_line settled.lines ++ codes "</error>\n")

abbrev pub told_part : Verdict → Settled → List ℕ
told_part Yes settled = []
told_part No settled = failed_part settled
told_part Refused settled = refused_part settled

unfoldable pub some_accepted : List (List ℕ) → List ℕ
some_accepted lines = codes "<system-out>accepted:\n" ++ (flat_map escaped_line lines ++ codes "</system-out>\n")

-- where any is accepted
abbrev pub accepted_part : List (List ℕ) → List ℕ
accepted_part [] = []
accepted_part (line ∷ lines) = some_accepted (line ∷ lines)

unfoldable pub case_begin : List ℕ → List ℕ
case_begin name = codes "<testcase classname=\"screens\" name=\"" ++ (escaped name ++ codes "\">\n")

unfoldable pub case_body : Settled → List ℕ
case_body settled = told_part settled.verdict settled ++ accepted_part settled.came

abbrev pub junit_case : List ℕ → Settled → List ℕ
junit_case name settled = case_begin name ++ (case_body settled ++ codes "</testcase>\n")

-- ---- the suite

unfoldable pub head : List ℕ
head = codes "<?xml version=\"1.0\" encoding=\"UTF-8\"?>\n<testsuites>\n<testsuite name=\"term3270 suite\""

-- how many test cases there are, how many fail, and how many are refused
unfoldable pub totals_part : Totals → List ℕ
totals_part t =
    codes " tests=\"" ++ (decimal t.screens ++ (codes "\" failures=\"" ++ (decimal t.no ++ (codes "\" errors=\"" ++ (decimal t.refused ++ codes "\">\n")))))

unfoldable pub junit_begin : Totals → List ℕ
junit_begin t = head ++ totals_part t

unfoldable pub junit_end : List ℕ
junit_end = codes "</testsuite>\n</testsuites>\n"

-- ---- a suite that is refused

abbrev pub one_refused : Totals
one_refused = record { screens = 1; yes = 0; no = 0; refused = 1; findings = 0; accepted = 0 }

unfoldable pub refused_case : List ℕ → List ℕ
refused_case words =
    codes "<testcase classname=\"screens\" name=\"suite\">\n<error message=\"refused\">" ++ (escaped_line words ++ codes "</error>\n</testcase>\n")

abbrev pub junit_refusal : List ℕ → List ℕ
junit_refusal words = junit_begin one_refused ++ (refused_case words ++ junit_end)
