use Rattle.std.proofs.Common.{◌≡◌, false, List, map}
use Rattle.scr_check.specs.Binding.{Pair, bound_from, bound_of}
use Rattle.scr_check.specs.Bound.{bound_seen, AreTaken}
use Rattle.scr_check.proofs.binding.bind.Given as goal

abbrev pub invariant-loop-field : goal.invariant-loop-field
invariant-loop-field l =
    (pairs : List Pair) × AreTaken l.taken pairs × (bound_from l.layout.entries pairs l.field-iterator ≡ bound_of l.layout.entries l.inbound)
    × (l.is_short ≡ false → pairs ≡ map bound_seen l.bound.items)
