use Rattle.std.proofs.Common.{◌≡◌, take}
use Rattle.std.specs.List.{flat_map}
use Rattle.ds_state.specs.Calls.{cell_pair}
use Rattle.ds_state.proofs.reading.pairs_of.Given as goal

abbrev pub invariant-places : goal.invariant-places
invariant-places g l = l.out.items ≡ flat_map cell_pair (take l.p l.screen.cells)
