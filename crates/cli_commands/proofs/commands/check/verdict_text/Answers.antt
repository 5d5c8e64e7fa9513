use Rattle.std.proofs.Common.{◌≡◌, ◌∙◌, ℕ, List, map, subst, sym, ap}
use Rattle.std.specs.Prelude.{IfOk}
use Rattle.std.specs.List.{flat_map}
use Rattle.scr_check.specs.declared.finding.Finding.{Finding}
use Rattle.cli_commands.specs.declared.status.Status.TheVariants.{Findings}
use Rattle.cli_commands.specs.DemoLines.{finding_lines, asked, shown_on}
use Rattle.cli_commands.specs.Printed.{Printed, printed}
use Rattle.cli_commands.specs.Held.{answer_seen}
use Rattle.cli_commands.proofs.Checked.{some_findings}
use Rattle.cli_commands.proofs.DemoNeeds.{lines_asked}
use Rattle.cli_commands.proofs.commands.check.verdict_text.Goals as goal

pub returns-in-No : goal.returns-in-No
returns-in-No c =
    let lines : Finding → List ℕ = finding_lines c.args.layout.now.entries (asked c.args.demos (shown_on c.args.layout.now (map (λ bytes. bytes.items) c.args.records.now))) in
    let opened = shown_on c.args.layout.now (map (λ bytes. bytes.items) c.args.records.now) in
    rw c.in-No.is (subst (λ (p : Printed). IfOk c.found.result (λ answer. answer_seen answer ≡ p))
    (ap (λ (text : List ℕ). printed text Findings)
    (lines_asked c.args.layout.now.entries c.args.demos c.demos_for.result opened c.as_slice-findings.result.now c.demos_for.ensures)
    ∙ ap (λ (fs : List Finding). printed (flat_map lines fs) Findings) c.as_slice-findings.ensures.value
    ∙ sym (some_findings lines c.in-No.findings.items (rw c.in-No.is at c.requires)))
    c.found.ensures)
