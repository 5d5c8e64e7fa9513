use Rattle.std.proofs.Common.{◌≡◌, ◌+◌, length}
use Rattle.cli_maps.specs.Source.{blank_length}
use Rattle.cli_maps.proofs.source.blank_length.Given as goal

abbrev pub invariant-loop-rest : goal.invariant-loop-rest
invariant-loop-rest l =
    record {
      count : l.count + blank_length l.rest ≡ blank_length l.text;
      whole : l.count + length l.rest ≡ length l.text;
    }

abbrev pub decreases-loop-rest : goal.decreases-loop-rest
decreases-loop-rest l = length l.rest
