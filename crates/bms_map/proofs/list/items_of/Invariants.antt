use Rattle.std.proofs.Common.{◌≡◌, ◌++◌, length}
use Rattle.bms_map.specs.Lists.{items_of}
use Rattle.bms_map.proofs.list.items_of.Given as goal

abbrev pub invariant-loop-item : goal.invariant-loop-item
invariant-loop-item l = l.words.items ++ items_of l.rest ≡ items_of l.letters

abbrev pub decreases-loop-item : goal.decreases-loop-item
decreases-loop-item l = length l.rest
