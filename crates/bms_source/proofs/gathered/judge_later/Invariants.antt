use Rattle.std.proofs.Common.{◌≡◌, length}
use Rattle.bms_source.specs.Gathered.{judge_later}
use Rattle.bms_source.proofs.gathered.judge_later.Given as goal

abbrev pub invariant-loop-rest : goal.invariant-loop-rest
invariant-loop-rest l = judge_later l.rest ≡ judge_later l.rows

abbrev pub decreases-loop-rest : goal.decreases-loop-rest
decreases-loop-rest l = length l.rest
