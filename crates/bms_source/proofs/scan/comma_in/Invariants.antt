use Rattle.std.proofs.Common.{◌≡◌, ◌+◌, ◌≤◌, length}
use Rattle.bms_source.specs.Scan.{outside, comma_from}
use Rattle.bms_source.proofs.scan.comma_in.Given as goal

abbrev pub invariant-loop-rest : goal.invariant-loop-rest
invariant-loop-rest l =
    record {
      count : l.count + comma_from l.depth l.rest ≡ comma_from outside l.letters;
      whole : l.count + length l.rest ≡ length l.letters;
      deep : l.depth.depth + length l.rest ≤ length l.letters;
    }

abbrev pub decreases-loop-rest : goal.decreases-loop-rest
decreases-loop-rest l = length l.rest
