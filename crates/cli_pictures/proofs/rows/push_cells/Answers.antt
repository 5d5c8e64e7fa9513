use Rattle.std.specs.String.{string_bytes}
use Rattle.cli_commands.proofs.Rows.{one_more}
use Rattle.cli_pictures.specs.Rows.{seen_column}
use Rattle.cli_pictures.proofs.rows.push_cells.Goals as goal

pub loop-column-preserved : goal.loop-column-preserved
loop-column-preserved c =
    one_more (seen_column c.args.screen.now c.args.row) c.loop-column.column (string_bytes c.args.out.now) (string_bytes c.loop-column.out) _ c.loop-column.invariant
    c.in_ok-push_column.ensures
