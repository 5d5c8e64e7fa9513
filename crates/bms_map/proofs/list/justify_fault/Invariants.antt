use Rattle.std.proofs.Common.{◌≡◌, length}
use Rattle.bms_map.specs.Lists.{justify_fault}
use Rattle.bms_map.proofs.list.justify_fault.Given as goal

abbrev pub invariant-loop-rest : goal.invariant-loop-rest
invariant-loop-rest l = justify_fault l.rest ≡ justify_fault l.words

abbrev pub decreases-loop-rest : goal.decreases-loop-rest
decreases-loop-rest l = length l.rest
