use Rattle.std.proofs.Common.{◌≡◌, ◌+◌, length}
use Rattle.bms_source.specs.Scan.{taken_count, taken_quoted}
use Rattle.bms_source.proofs.scan.taken.Given as goal

abbrev pub invariant-loop-rest : goal.invariant-loop-rest
invariant-loop-rest l =
    record {
      count : l.count + taken_count l.quoted l.rest ≡ taken_count l.fn.quoted l.letters;
      quoted : taken_quoted l.quoted l.rest ≡ taken_quoted l.fn.quoted l.letters;
      whole : l.count + length l.rest ≡ length l.letters;
    }

abbrev pub decreases-loop-rest : goal.decreases-loop-rest
decreases-loop-rest l = length l.rest
