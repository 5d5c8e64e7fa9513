use Rattle.std.proofs.Common.{◌≡◌, ◌++◌, length}
use Rattle.std.specs.List.{flat_map}
use Rattle.std.specs.String.{string_bytes}
use Rattle.bms_map.specs.LayoutText.{entry_if}
use Rattle.bms_map.proofs.layout.push_all.Given as goal

abbrev pub invariant-loop-rest : goal.invariant-loop-rest
invariant-loop-rest l = string_bytes l.out ++ flat_map (entry_if l.map) l.rest ≡ string_bytes l.fn.out ++ flat_map (entry_if l.fn.map) l.fn.fields

abbrev pub decreases-loop-rest : goal.decreases-loop-rest
decreases-loop-rest l = length l.rest
