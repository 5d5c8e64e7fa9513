use Rattle.std.proofs.Common.{◌≡◌, ◌+◌, length}
use Rattle.std.specs.Prelude.{nat_le}
use Rattle.bms_map.specs.Entries.{attributes_of}
use Rattle.bms_map.specs.Maps.{its_ground}
use Rattle.bms_map.specs.declared.macros.TheConstants.{MOST_ATTRIBUTES}
use Rattle.bms_map.proofs.macros.are_most.Given as goal

abbrev pub invariant-loop-rest : goal.invariant-loop-rest
invariant-loop-rest l = nat_le l.left (length (attributes_of (its_ground l.area) l.rest) + l.more) ≡ nat_le MOST_ATTRIBUTES (length (attributes_of (its_ground l.area) l.entries) + l.more)

abbrev pub decreases-loop-rest : goal.decreases-loop-rest
decreases-loop-rest l = length l.rest
