use Rattle.std.proofs.Common.{◌≡◌, length}
use Rattle.bms_map.specs.Lists.{are_words}
use Rattle.bms_map.proofs.list.are_words.Given as goal

abbrev pub invariant-loop-rest : goal.invariant-loop-rest
invariant-loop-rest l = are_words l.rest ≡ are_words l.words

abbrev pub decreases-loop-rest : goal.decreases-loop-rest
decreases-loop-rest l = length l.rest
