use Rattle.std.proofs.Common.{◌++◌, ap, ◌∙◌}
use Rattle.std.specs.String.{string_bytes}
use Rattle.scr_check.specs.Origins.{kept_at}
use Rattle.cli_commands.proofs.Rows.{one_more}
use Rattle.cli_findings.specs.Origins.{origin_line}
use Rattle.cli_findings.proofs.origins.push_origins.Goals as goal

pub loop-p-preserved : goal.loop-p-preserved
loop-p-preserved c =
    one_more (λ p. origin_line (kept_at c.args.origins.now p)) c.loop-p.p (string_bytes c.args.out.now) (string_bytes c.loop-p.out) _ c.loop-p.invariant
    (c.in_ok-push_origin.ensures ∙ ap (λ origin. string_bytes c.loop-p.out ++ origin_line origin) c.at.ensures)
