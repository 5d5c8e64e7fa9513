use Rattle.std.proofs.Common.{◌≡◌, length}
use Rattle.bms_map.specs.Lookup.{later_of}
use Rattle.bms_map.proofs.lookup.later_of.Given as goal

abbrev pub invariant-loop-rest : goal.invariant-loop-rest
invariant-loop-rest l = later_of l.one l.other l.rest ≡ later_of l.one l.other l.operands

abbrev pub decreases-loop-rest : goal.decreases-loop-rest
decreases-loop-rest l = length l.rest
