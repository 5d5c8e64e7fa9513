use Rattle.std.proofs.Common.{◌≡◌, ◌++◌, map, drop}
use Rattle.cli_maps.specs.declared.judged.MapFinding.TheVariants.{Found}
use Rattle.cli_maps.proofs.judged.push_all.Given as goal

abbrev pub invariant-loop-finding : goal.invariant-loop-finding
invariant-loop-finding l =
    l.found.items ++ map (λ finding. Found finding) (drop l.finding-index l.findings) ≡ l.fn.found.items ++ map (λ finding. Found finding) l.findings
