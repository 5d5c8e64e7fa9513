-- The report of a suite as lines of JSON.
use Rattle.std.specs.Prelude.{ℕ, codes, List, map}
use Rattle.serde_json.specs.Data.{Data, number, unsigned, string, array, object, member, no_members}
use Rattle.serde_json.specs.View.{items_of}
use Rattle.cli_findings.specs.Lines.{data_line}
use Rattle.cli_suites.specs.declared.count.Totals.{Totals}
use Rattle.cli_suites.specs.declared.settled.Verdict.{Verdict}
use Rattle.cli_suites.specs.declared.settled.Verdict.TheVariants.{Yes, No, Refused}
use Rattle.cli_suites.specs.Settled.{Settled}

abbrev pub texts_data : List (List ℕ) → Data
texts_data texts = array (items_of (map (λ text. string text) texts))

abbrev pub verdict_word : Verdict → List ℕ
verdict_word Yes = codes "yes"
verdict_word No = codes "no"
verdict_word Refused = codes "refused"

-- the accepted findings that come, how many do besides, what stands against the screen, its name and the verdict
unfoldable pub case_data : List ℕ → Settled → Data
case_data name settled =
    object (member (codes "accepted") (texts_data settled.came) (member (codes "findings") (number (unsigned settled.findings))
    (member (codes "lines") (texts_data settled.lines) (member (codes "screen") (string name)
    (member (codes "verdict") (string (verdict_word settled.verdict)) no_members)))))

abbrev pub json_case : List ℕ → Settled → List ℕ
json_case name settled = data_line (case_data name settled)

abbrev pub totals_data : Totals → Data
totals_data t =
    object (member (codes "accepted") (number (unsigned t.accepted)) (member (codes "findings") (number (unsigned t.findings))
    (member (codes "no") (number (unsigned t.no)) (member (codes "refused") (number (unsigned t.refused))
    (member (codes "screens") (number (unsigned t.screens)) (member (codes "yes") (number (unsigned t.yes)) no_members))))))

abbrev pub json_end : Totals → List ℕ
json_end totals = data_line (totals_data totals)

-- a suite that is refused
abbrev pub refusal_data : List ℕ → Data
refusal_data words = object (member (codes "verdict") (string (codes "refused")) (member (codes "words") (string words) no_members))

abbrev pub refusal_line : List ℕ → List ℕ
refusal_line words = data_line (refusal_data words)
