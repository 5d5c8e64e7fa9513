use Rattle.std.proofs.Common.{◌≡◌, ◌++◌, length}
use Rattle.std.specs.List.{flat_map}
use Rattle.bms_map.specs.Entries.{later_in}
use Rattle.bms_map.specs.Maps.{its_ground}
use Rattle.bms_map.proofs.sheet.later_of.Given as goal

abbrev pub invariant-loop-rest : goal.invariant-loop-rest
invariant-loop-rest l = l.later.items ++ flat_map (later_in (its_ground l.area)) l.rest ≡ flat_map (later_in (its_ground l.area)) l.entries

abbrev pub decreases-loop-rest : goal.decreases-loop-rest
decreases-loop-rest l = length l.rest
