use Rattle.std.proofs.Common.{◌≡◌, ◌+◌, length}
use Rattle.ds_inbound.specs.Answer.{written_characters}
use Rattle.ds_inbound.specs.Characters.{characters_in}
use Rattle.ds_inbound.proofs.front.run_length.Given as goal

abbrev pub invariant-run : goal.invariant-run
invariant-run l =
    record {
      run : l.taken + length (written_characters (characters_in l.rest)) ≡ length (written_characters (characters_in l.bytes));
      place : l.taken + length l.rest ≡ length l.bytes;
    }

abbrev pub decreases-run : goal.decreases-run
decreases-run l = length l.rest
