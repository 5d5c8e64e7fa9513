use Rattle.std.proofs.Common.{◌≡◌, ◌+◌, length}
use Rattle.bms_source.specs.Statement.{word_length}
use Rattle.bms_source.proofs.statement.word_length.Given as goal

abbrev pub invariant-loop-rest : goal.invariant-loop-rest
invariant-loop-rest l =
    record {
      count : l.count + word_length l.rest ≡ word_length l.letters;
      whole : l.count + length l.rest ≡ length l.letters;
    }

abbrev pub decreases-loop-rest : goal.decreases-loop-rest
decreases-loop-rest l = length l.rest
