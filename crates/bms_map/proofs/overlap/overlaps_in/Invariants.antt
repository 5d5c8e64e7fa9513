use Rattle.std.proofs.Common.{◌≡◌, ◌-◌, ◌++◌, length}
use Rattle.std.specs.List.{flat_map, range_with_len}
use Rattle.bms_map.specs.Overlaps.{overlaps_at}
use Rattle.bms_map.proofs.overlap.overlaps_in.Given as goal

abbrev pub invariant-fields : goal.invariant-fields
invariant-fields l = l.found.items ++ flat_map (overlaps_at l.fields l.last) (range_with_len l.index (length l.fields - l.index)) ≡ flat_map (overlaps_at l.fields l.last) (range_with_len 0 (length l.fields))
