use Rattle.std.proofs.Common.{◌≡◌, length}
use Rattle.bms_map.specs.Texts.{are_doubled}
use Rattle.bms_map.proofs.text.are_doubled.Given as goal

abbrev pub invariant-loop-rest : goal.invariant-loop-rest
invariant-loop-rest l = are_doubled l.rest ≡ are_doubled l.inner

abbrev pub decreases-loop-rest : goal.decreases-loop-rest
decreases-loop-rest l = length l.rest
