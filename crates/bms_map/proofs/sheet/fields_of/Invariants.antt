use Rattle.std.proofs.Common.{◌≡◌, length}
use Rattle.bms_map.specs.Entries.{placed_all, shown_of, in_order}
use Rattle.bms_map.specs.Maps.{its_ground}
use Rattle.bms_map.proofs.sheet.fields_of.Given as goal

abbrev pub invariant-loop-rest : goal.invariant-loop-rest
invariant-loop-rest l = placed_all l.fields.items (shown_of (its_ground l.area) l.rest) ≡ in_order (shown_of (its_ground l.area) l.entries)

abbrev pub decreases-loop-rest : goal.decreases-loop-rest
decreases-loop-rest l = length l.rest
