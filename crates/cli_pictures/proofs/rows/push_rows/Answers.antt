use Rattle.std.specs.String.{string_bytes}
use Rattle.cli_commands.proofs.Rows.{one_more}
use Rattle.cli_pictures.specs.Rows.{seen_row}
use Rattle.cli_pictures.proofs.rows.push_rows.Goals as goal

pub loop-row-preserved : goal.loop-row-preserved
loop-row-preserved c =
    one_more (seen_row c.args.screen.now) c.loop-row.row (string_bytes c.args.out.now) (string_bytes c.loop-row.out) _ c.loop-row.invariant c.in_ok-push_row.ensures
