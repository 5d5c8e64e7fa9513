use Rattle.std.proofs.Common.{◌≡◌, ◌++◌, drop, map, string_bytes}
use Rattle.cli_findings.specs.Results.{results_seen}
use Rattle.cli_suites.specs.Found.{stale_result}
use Rattle.cli_suites.proofs.found.each_stale.Given as goal

abbrev pub invariant-loop-line : goal.invariant-loop-line
invariant-loop-line l =
    results_seen l.results ++ map (stale_result l.path) (map string_bytes (drop l.line-index l.lines)) ≡ map (stale_result l.path) (map string_bytes l.lines)
