use Rattle.std.proofs.Common.{arith}
use Rattle.std.proofs.lemmas.Grind.{common_steps}
use Rattle.buffer_lines.proofs.Items.{held_more}
use Rattle.buffer_lines.proofs.record.push_cells.Goals as goal

pub loop-cell-preserved : goal.loop-cell-preserved
loop-cell-preserved c = record {
  written = grind (arith, common_steps);
  held = held_more c.args.cells.now c.loop-cell.cell-index c.cell-item.result c.loop-cell-test.true c.cell-item.is c.loop-cell.invariant.held c.in_ok-push_cell.ensures.held;
}
