use Rattle.std.proofs.Common.{◌≡◌, ◌+◌, ◌≤◌, length}
use Rattle.bms_source.specs.Scan.{outside, are_paired_from}
use Rattle.bms_source.proofs.scan.are_paired.Given as goal

abbrev pub invariant-loop-rest : goal.invariant-loop-rest
invariant-loop-rest l =
    record {
      paired : are_paired_from l.depth l.rest ≡ are_paired_from outside l.letters;
      deep : l.depth.depth + length l.rest ≤ length l.letters;
    }

abbrev pub decreases-loop-rest : goal.decreases-loop-rest
decreases-loop-rest l = length l.rest
