use Rattle.std.proofs.Common.{◌≡◌, length}
use Rattle.bms_map.specs.Lists.{has}
use Rattle.bms_map.proofs.list.has.Given as goal

abbrev pub invariant-loop-rest : goal.invariant-loop-rest
invariant-loop-rest l = has l.rest l.name ≡ has l.words l.name

abbrev pub decreases-loop-rest : goal.decreases-loop-rest
decreases-loop-rest l = length l.rest
