use Rattle.std.proofs.Common.{◌≡◌, ◌++◌, take}
use Rattle.std.specs.List.{flat_map}
use Rattle.buffer_lines.specs.Left.{AreHeld}
use Rattle.buffer_lines.specs.Record.{cell_bytes}
use Rattle.buffer_lines.proofs.record.push_cells.Given as goal

abbrev pub invariant-loop-cell : goal.invariant-loop-cell
invariant-loop-cell l = record {
  written : l.out.items ≡ l.fn.out.items ++ flat_map cell_bytes (take l.cell-index l.cells);
  held : AreHeld (take l.cell-index l.cells);
}
