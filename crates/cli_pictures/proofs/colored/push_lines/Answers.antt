use Rattle.std.specs.String.{string_bytes}
use Rattle.cli_commands.proofs.Rows.{one_more}
use Rattle.cli_pictures.specs.Colored.{colored_line}
use Rattle.cli_pictures.proofs.colored.push_lines.Goals as goal

pub loop-row-preserved : goal.loop-row-preserved
loop-row-preserved c =
    one_more (colored_line c.args.screen.now) c.loop-row.row (string_bytes c.args.out.now) (string_bytes c.loop-row.out) _ c.loop-row.invariant c.in_ok-push_line.ensures
