use Rattle.std.proofs.Common.{◌≡◌, ◌+◌, length}
use Rattle.bms_map.specs.Values.{comma_in}
use Rattle.bms_map.proofs.values.comma_in.Given as goal

abbrev pub invariant-loop-rest : goal.invariant-loop-rest
invariant-loop-rest l = record { count : l.count + comma_in l.rest ≡ comma_in l.letters; whole : l.count + length l.rest ≡ length l.letters }

abbrev pub decreases-loop-rest : goal.decreases-loop-rest
decreases-loop-rest l = length l.rest
