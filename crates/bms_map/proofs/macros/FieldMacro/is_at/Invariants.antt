use Rattle.std.proofs.Common.{◌≡◌, ◌-◌, ◌==◌, map}
use Rattle.std.specs.List.{list_any, range_with_len}
use Rattle.bms_map.specs.Entries.{index_at, cells_from}
use Rattle.bms_map.specs.Overlaps.{cell_in}
use Rattle.bms_map.specs.Maps.{its_ground}
use Rattle.bms_map.proofs.macros.FieldMacro.is_at.Given as goal

abbrev pub invariant-occurrences : goal.invariant-occurrences
invariant-occurrences l = list_any (λ c. c == l.cell) (map (λ k. cell_in (its_ground l.area) (index_at l.self k)) (range_with_len l.k (l.self.occurs - l.k))) ≡ list_any (λ c. c == l.cell) (cells_from (its_ground l.area) l.self)
