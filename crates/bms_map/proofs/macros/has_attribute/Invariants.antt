use Rattle.std.proofs.Common.{◌≡◌, ◌==◌, length}
use Rattle.std.specs.List.{list_any}
use Rattle.bms_map.specs.Entries.{attributes_of}
use Rattle.bms_map.specs.Maps.{its_ground}
use Rattle.bms_map.proofs.macros.has_attribute.Given as goal

abbrev pub invariant-loop-rest : goal.invariant-loop-rest
invariant-loop-rest l = list_any (λ c. c == l.cell) (attributes_of (its_ground l.area) l.rest) ≡ list_any (λ c. c == l.cell) (attributes_of (its_ground l.area) l.entries)

abbrev pub decreases-loop-rest : goal.decreases-loop-rest
decreases-loop-rest l = length l.rest
