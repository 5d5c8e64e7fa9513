use Rattle.std.proofs.Common.{◌≡◌, length}
use Rattle.bms_map.specs.Operands.{operands_of}
use Rattle.bms_map.proofs.OperandLaws.{operands_behind}
use Rattle.bms_map.proofs.operands.operands_of.Given as goal

abbrev pub invariant-loop-rest : goal.invariant-loop-rest
invariant-loop-rest l = operands_behind l.operation l.told.items l.rest ≡ operands_of l.operation l.letters

abbrev pub decreases-loop-rest : goal.decreases-loop-rest
decreases-loop-rest l = length l.rest
