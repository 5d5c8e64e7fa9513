use Rattle.std.proofs.Common.{◌≡◌, ◌+◌, length, map}
use Rattle.bms_map.specs.Source.{source_from}
use Rattle.bms_map.specs.Mapset.{nothing, told_by}
use Rattle.bms_map.proofs.mapset.maps_in.Given as goal

abbrev pub invariant-loop-rest : goal.invariant-loop-rest
invariant-loop-rest l =
    record {
      count : l.number + length l.rest ≡ 1 + length l.lines;
      due : told_by l.mapset (source_from 0 l.number (map (λ line. line.now) l.rest)) ≡ told_by nothing (source_from 0 1 (map (λ line. line.now) l.lines));
    }

abbrev pub decreases-loop-rest : goal.decreases-loop-rest
decreases-loop-rest l = length l.rest
