use Rattle.std.proofs.Common.{◌≡◌, ◌++◌, take}
use Rattle.std.specs.List.{flat_map}
use Rattle.buffer_lines.specs.Record.{cell_bytes}
use Rattle.buffer_lines.specs.Left.{AreHeld}
use Rattle.ds_state.proofs.spelled.push_cells.Given as goal

abbrev pub invariant-places : goal.invariant-places
invariant-places g l = record {
  written : l.out.items ≡ l.fn.out.items ++ flat_map cell_bytes (take l.p l.screen.cells);
  held : AreHeld (take l.p l.screen.cells);
}
