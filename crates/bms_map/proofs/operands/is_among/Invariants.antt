use Rattle.std.proofs.Common.{◌≡◌, length}
use Rattle.bms_map.specs.Operands.{is_repeated}
use Rattle.bms_map.proofs.operands.is_among.Given as goal

abbrev pub invariant-loop-rest : goal.invariant-loop-rest
invariant-loop-rest l = is_repeated l.rest l.keyword ≡ is_repeated l.before l.keyword

abbrev pub decreases-loop-rest : goal.decreases-loop-rest
decreases-loop-rest l = length l.rest
