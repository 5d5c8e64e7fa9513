use Rattle.std.proofs.Common.{◌≡◌, ◌++◌, map, drop}
use Rattle.serde_json.specs.View.{view}
use Rattle.cli_maps.specs.Sarif.{finding_result, results_of}
use Rattle.cli_maps.proofs.sarif.push_results.Given as goal

abbrev pub invariant-loop-finding : goal.invariant-loop-finding
invariant-loop-finding l =
    map view l.results.items ++ map (finding_result l.path (map (λ line. line.now) l.lines) l.map l.entries) (drop l.finding-index l.judged.findings)
    ≡ map view l.fn.results.items ++ results_of l.path (map (λ line. line.now) l.lines) l.map l.judged
