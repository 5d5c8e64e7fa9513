use Rattle.std.specs.String.{string_bytes}
use Rattle.cli_commands.proofs.Rows.{one_more}
use Rattle.cli_pictures.specs.Svg.{text_at}
use Rattle.cli_pictures.proofs.svg.push_texts.Goals as goal

pub loop-p-preserved : goal.loop-p-preserved
loop-p-preserved c =
    one_more (text_at c.args.screen.now) c.loop-p.p (string_bytes c.args.out.now) (string_bytes c.loop-p.out) _ c.loop-p.invariant c.in_ok-push_text_at.ensures
