use Rattle.std.proofs.Common.{◌≡◌, length}
use Rattle.bms_source.specs.Gathered.{first_other}
use Rattle.bms_source.proofs.gathered.first_other.Given as goal

abbrev pub invariant-loop-rest : goal.invariant-loop-rest
invariant-loop-rest l = first_other l.rest ≡ first_other l.letters

abbrev pub decreases-loop-rest : goal.decreases-loop-rest
decreases-loop-rest l = length l.rest
