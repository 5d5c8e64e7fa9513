use Rattle.std.proofs.Common.{◌≡◌, ◌+◌, length}
use Rattle.cli_maps.specs.Source.{word_length}
use Rattle.cli_maps.proofs.source.word_length.Given as goal

abbrev pub invariant-loop-rest : goal.invariant-loop-rest
invariant-loop-rest l =
    record {
      count : l.count + word_length l.rest ≡ word_length l.text;
      whole : l.count + length l.rest ≡ length l.text;
    }

abbrev pub decreases-loop-rest : goal.decreases-loop-rest
decreases-loop-rest l = length l.rest
