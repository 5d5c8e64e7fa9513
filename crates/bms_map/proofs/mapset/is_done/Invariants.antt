use Rattle.std.proofs.Common.{◌≡◌, length}
use Rattle.std.specs.List.{list_any}
use Rattle.bms_map.specs.Maps.{Sheet}
use Rattle.bms_map.specs.Entries.{same}
use Rattle.bms_map.proofs.mapset.is_done.Given as goal

abbrev pub invariant-loop-rest : goal.invariant-loop-rest
invariant-loop-rest l = list_any (λ (sheet : Sheet). same l.name sheet.name) l.rest ≡ list_any (λ (sheet : Sheet). same l.name sheet.name) l.maps

abbrev pub decreases-loop-rest : goal.decreases-loop-rest
decreases-loop-rest l = length l.rest
