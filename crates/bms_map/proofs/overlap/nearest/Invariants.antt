use Rattle.std.proofs.Common.{◌≡◌, ◌≤◌}
use Rattle.bms_map.specs.Overlaps.{nearest}
use Rattle.bms_map.proofs.overlap.nearest.Given as goal

abbrev pub invariant-fields : goal.invariant-fields
invariant-fields l = record { within : l.i ≤ l.count; same : nearest l.fields l.cell l.i ≡ nearest l.fields l.cell l.count }

abbrev pub decreases-fields : goal.decreases-fields
decreases-fields l = l.i
