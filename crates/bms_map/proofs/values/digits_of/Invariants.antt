use Rattle.std.proofs.Common.{◌≡◌, ◌+◌, ◌*◌, ◌^◌, ◌≤◌, length}
use Rattle.bms_map.specs.Values.{digits_from}
use Rattle.bms_map.proofs.values.digits_of.Given as goal

abbrev pub invariant-loop-rest : goal.invariant-loop-rest
invariant-loop-rest l = record { same : digits_from l.number l.rest ≡ digits_from 0 l.value; small : (l.number + 1) * 10 ^ length l.rest ≤ 1000000000 }

abbrev pub decreases-loop-rest : goal.decreases-loop-rest
decreases-loop-rest l = length l.rest
