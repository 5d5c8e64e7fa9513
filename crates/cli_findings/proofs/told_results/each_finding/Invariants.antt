use Rattle.std.proofs.Common.{◌≡◌, ◌++◌, map, drop}
use Rattle.cli_findings.specs.Results.{results_seen}
use Rattle.cli_findings.specs.Sarif.{finding_result}
use Rattle.cli_findings.proofs.told_results.each_finding.Given as goal

abbrev pub invariant-loop-finding : goal.invariant-loop-finding
invariant-loop-finding l =
    results_seen l.results ++ map (finding_result l.front l.path l.layout l.standing) (drop l.finding-index l.findings)
    ≡ map (finding_result l.fn.front l.fn.path l.fn.layout l.fn.standing) l.fn.findings
