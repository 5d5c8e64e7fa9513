use Rattle.std.proofs.Common.{◌≡◌, length}
use Rattle.bms_source.specs.Gathered.{gathered, begun}
use Rattle.bms_source.proofs.gathered.operands_of.Given as goal

abbrev pub invariant-loop-rest : goal.invariant-loop-rest
invariant-loop-rest l = gathered l.gathered l.rest ≡ gathered (begun l.text) l.rows

abbrev pub decreases-loop-rest : goal.decreases-loop-rest
decreases-loop-rest l = length l.rest
