use Rattle.std.proofs.Common.{◌≡◌, length}
use Rattle.std.specs.List.{list_any}
use Rattle.bms_map.specs.Entries.{same, names_of}
use Rattle.bms_map.proofs.macros.is_taken.Given as goal

abbrev pub invariant-loop-rest : goal.invariant-loop-rest
invariant-loop-rest l = list_any (same l.name) (names_of l.rest) ≡ list_any (same l.name) (names_of l.entries)

abbrev pub decreases-loop-rest : goal.decreases-loop-rest
decreases-loop-rest l = length l.rest
