use Rattle.std.proofs.Common.{◌≡◌, length, map}
use Rattle.bms_map.specs.Lists.{is_among}
use Rattle.bms_map.proofs.list.is_among.Given as goal

abbrev pub invariant-loop-rest : goal.invariant-loop-rest
invariant-loop-rest l = is_among (map (λ name. name.now) l.rest) l.word ≡ is_among (map (λ name. name.now) l.names) l.word

abbrev pub decreases-loop-rest : goal.decreases-loop-rest
decreases-loop-rest l = length l.rest
