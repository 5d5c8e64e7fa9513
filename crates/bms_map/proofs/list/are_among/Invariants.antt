use Rattle.std.proofs.Common.{◌≡◌, length, map}
use Rattle.bms_map.specs.Lists.{are_among}
use Rattle.bms_map.proofs.list.are_among.Given as goal

abbrev pub invariant-loop-rest : goal.invariant-loop-rest
invariant-loop-rest l = are_among (map (λ name. name.now) l.names) l.rest ≡ are_among (map (λ name. name.now) l.names) l.words

abbrev pub decreases-loop-rest : goal.decreases-loop-rest
decreases-loop-rest l = length l.rest
