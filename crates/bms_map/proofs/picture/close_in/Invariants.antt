use Rattle.std.proofs.Common.{◌≡◌, ◌+◌, length}
use Rattle.bms_map.specs.Pictures.{close_in}
use Rattle.bms_map.proofs.picture.close_in.Given as goal

abbrev pub invariant-loop-rest : goal.invariant-loop-rest
invariant-loop-rest l = record { count : l.count + close_in l.rest ≡ close_in l.letters; whole : l.count + length l.rest ≡ length l.letters }

abbrev pub decreases-loop-rest : goal.decreases-loop-rest
decreases-loop-rest l = length l.rest
