use Rattle.std.proofs.Common.{◌≡◌, length}
use Rattle.bms_map.specs.Lists.{has_twice}
use Rattle.bms_map.proofs.list.has_twice.Given as goal

abbrev pub invariant-loop-rest : goal.invariant-loop-rest
invariant-loop-rest l = has_twice l.rest ≡ has_twice l.words

abbrev pub decreases-loop-rest : goal.decreases-loop-rest
decreases-loop-rest l = length l.rest
