use Rattle.std.proofs.Common.{◌≡◌, ◌++◌, map, drop}
use Rattle.scr_check.specs.FindingText.{finding_text}
use Rattle.script_checks.specs.Lines.{lines_after}
use Rattle.script_checks.proofs.check.push_findings.Given as goal

abbrev pub invariant-loop-finding : goal.invariant-loop-finding
invariant-loop-finding l =
    l.out.items ++ lines_after l.front (map (finding_text l.entries) (drop l.finding-index l.findings))
    ≡ l.fn.out.items ++ lines_after l.front (map (finding_text l.entries) l.findings)
