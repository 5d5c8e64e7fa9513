use Rattle.std.proofs.Common.{◌≡◌, ◌-◌, map}
use Rattle.std.specs.List.{range_with_len}
use Rattle.bms_map.specs.Entries.{placed_all, shown_at, shown_from}
use Rattle.bms_map.specs.Maps.{its_ground}
use Rattle.bms_map.proofs.sheet.put_each.Given as goal

abbrev pub invariant-occurrences : goal.invariant-occurrences
invariant-occurrences l = placed_all l.fields.items (map (shown_at (its_ground l.area) l.entry l.others) (range_with_len l.k (l.entry.occurs - l.k))) ≡ placed_all l.fn.fields.items (shown_from (its_ground l.fn.area) l.fn.entry l.fn.others)
