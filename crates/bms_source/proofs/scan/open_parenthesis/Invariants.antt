use Rattle.std.proofs.Common.{◌≡◌, ◌+◌, ◌≤◌, None, length}
use Rattle.bms_source.specs.Scan.{outside, first_open}
use Rattle.bms_source.proofs.scan.open_parenthesis.Given as goal

abbrev pub invariant-loop-rest : goal.invariant-loop-rest
invariant-loop-rest l =
    record {
      first : first_open l.depth l.place l.rest ≡ first_open outside None l.letters;
      deep : l.depth.depth + length l.rest ≤ length l.letters;
    }

abbrev pub decreases-loop-rest : goal.decreases-loop-rest
decreases-loop-rest l = length l.rest
