use Rattle.std.proofs.Common.{◌≡◌, ◌++◌, map, drop}
use Rattle.cli_maps.specs.declared.judged.MapFinding.TheVariants.{Overlapping}
use Rattle.cli_maps.proofs.judged.push_each.Given as goal

abbrev pub invariant-loop-overlap : goal.invariant-loop-overlap
invariant-loop-overlap l =
    l.found.items ++ map (λ overlap. Overlapping overlap) (drop l.overlap-index l.overlaps)
    ≡ l.fn.found.items ++ map (λ overlap. Overlapping overlap) l.overlaps
