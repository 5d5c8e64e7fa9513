-- The report of a suite as lines.
use Rattle.std.specs.Prelude.{ℕ, ◌==◌, codes, List, [], ◌++◌, if◌then◌else◌}
use Rattle.std.specs.Fmt.{decimal}
use Rattle.std.specs.List.{flat_map}
use Rattle.cli_suites.specs.declared.count.Totals.{Totals}
use Rattle.cli_suites.specs.declared.settled.Verdict.{Verdict}
use Rattle.cli_suites.specs.declared.settled.Verdict.TheVariants.{Yes, No, Refused}
use Rattle.cli_suites.specs.Settled.{Settled}

-- as `1 finding` and `2 findings`
abbrev pub counted_words : ℕ → List ℕ → List ℕ
counted_words count thing =
    if count == 1 then codes "1 " ++ thing else decimal count ++ (codes " " ++ (thing ++ codes "s"))

abbrev pub verdict_words : Verdict → ℕ → List ℕ
verdict_words Yes findings = codes "yes"
verdict_words No findings = counted_words findings (codes "finding")
verdict_words Refused findings = codes "refused"

abbrev pub indented : List ℕ → List ℕ
indented line = codes "  " ++ (line ++ codes "\n")

-- the name and the verdict, and what stands against the screen below it
abbrev pub text_case : List ℕ → Settled → List ℕ
text_case name settled =
    name ++ (codes ": " ++ (verdict_words settled.verdict settled.findings ++ (codes "\n" ++ flat_map indented settled.lines)))

abbrev pub accepted_line : List ℕ → List ℕ → List ℕ
accepted_line name line = codes "accepted " ++ (name ++ (codes ": " ++ (line ++ codes "\n")))

abbrev pub accepted_lines : List ℕ → List (List ℕ) → List ℕ
accepted_lines name came = flat_map (accepted_line name) came

abbrev pub refused_words : ℕ → List ℕ
refused_words refused = if refused == 0 then [] else codes ", " ++ (decimal refused ++ codes " refused")

abbrev pub screens_words : Totals → List ℕ
screens_words t = counted_words t.screens (codes "screen") ++ (codes ", " ++ (decimal t.yes ++ (codes " yes, " ++ (decimal t.no ++ codes " no"))))

abbrev pub findings_words : Totals → List ℕ
findings_words t = codes ", " ++ (counted_words t.findings (codes "finding") ++ (codes ", " ++ (decimal t.accepted ++ codes " accepted\n")))

-- as `412 screens, 409 yes, 3 no, 5 findings, 1 accepted`; how many are refused stands there where any is
abbrev pub totals_line : Totals → List ℕ
totals_line t = screens_words t ++ (refused_words t.refused ++ findings_words t)
