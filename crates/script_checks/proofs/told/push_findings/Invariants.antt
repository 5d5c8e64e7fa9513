use Rattle.std.proofs.Common.{◌≡◌, ◌++◌, map, drop}
use Rattle.std.specs.String.{string_bytes}
use Rattle.scr_check.specs.FindingText.{finding_text}
use Rattle.script_checks.proofs.told.push_findings.Given as goal

abbrev pub invariant-loop-finding : goal.invariant-loop-finding
invariant-loop-finding l =
    map string_bytes l.lines.items ++ map (finding_text l.entries) (drop l.finding-index l.findings)
    ≡ map string_bytes l.fn.lines.items ++ map (finding_text l.entries) l.findings
