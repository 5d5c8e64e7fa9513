use Rattle.std.proofs.Common.{◌≡◌, ◌+◌, ◌≤◌, length, map}
use Rattle.bms_map.specs.Lists.{count_among}
use Rattle.bms_map.proofs.list.count_among.Given as goal

abbrev pub invariant-loop-rest : goal.invariant-loop-rest
invariant-loop-rest l = record { count : l.count + count_among (map (λ name. name.now) l.names) l.rest ≡ count_among (map (λ name. name.now) l.names) l.words; few : l.count + length l.rest ≤ length l.words }

abbrev pub decreases-loop-rest : goal.decreases-loop-rest
decreases-loop-rest l = length l.rest
