use Rattle.std.proofs.Common.{◌≡◌, ◌∙◌, ℕ, List, map, subst, ap}
use Rattle.std.specs.Prelude.{IfOk}
use Rattle.scr_check.specs.declared.finding.Finding.{Finding}
use Rattle.scr_check.specs.Findings.{answer_of}
use Rattle.scr_check.specs.Seen.{findings_in}
use Rattle.cli_commands.specs.DemoLines.{finding_lines, asked, shown_on}
use Rattle.cli_commands.specs.Printed.{Printed}
use Rattle.cli_commands.specs.Check.{printed_verdict}
use Rattle.cli_commands.specs.Held.{answer_seen}
use Rattle.cli_commands.proofs.Opened.{from_shown}
use Rattle.cli_commands.proofs.commands.check.check_answer.Goals as goal

pub returns : goal.returns
returns c =
    let records : List (List ℕ) = map (λ bytes. bytes.items) c.args.records.now in
    let lines : Finding → List ℕ = finding_lines c.args.layout.now.entries (asked c.args.demos (shown_on c.args.layout.now records)) in
    let lent : map (λ bytes. bytes.now) c.as_slice.result.now ≡ records = ap (map (λ bytes. bytes.now)) c.as_slice.ensures.value ∙ c.in_ok-slices.ensures in
    let listed : findings_in c.in_ok-verdict.verdict ≡ answer_of c.args.layout.now records =
    c.in_ok-verdict.ensures.listed ∙ ap (answer_of c.args.layout.now) lent in
    subst (λ (p : Printed). IfOk c.verdict_text.result (λ answer. answer_seen answer ≡ p))
    (ap (printed_verdict lines) listed ∙ from_shown c.args.demos c.args.layout.now records)
    c.verdict_text.ensures
