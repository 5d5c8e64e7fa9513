use Rattle.std.proofs.Common.{◌≡◌, length}
use Rattle.bms_map.specs.Lookup.{operand_at}
use Rattle.bms_map.proofs.lookup.operand_at.Given as goal

abbrev pub invariant-loop-rest : goal.invariant-loop-rest
invariant-loop-rest l = operand_at l.name l.rest ≡ operand_at l.name l.operands

abbrev pub decreases-loop-rest : goal.decreases-loop-rest
decreases-loop-rest l = length l.rest
