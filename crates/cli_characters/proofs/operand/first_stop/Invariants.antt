use Rattle.std.proofs.Common.{◌≡◌, ◌≤◌, ◌-◌, length, drop}
use Rattle.cli_characters.specs.Operand.{stop_from, first_stop}
use Rattle.cli_characters.proofs.operand.first_stop.Given as goal

-- what is left from here on stops at the same place
abbrev pub invariant-loop-at : goal.invariant-loop-at
invariant-loop-at l = (l.at ≤ length l.operand) × (stop_from l.at l.place (drop l.at l.operand) ≡ first_stop l.operand)

abbrev pub decreases-loop-at : goal.decreases-loop-at
decreases-loop-at l = length l.operand - l.at
