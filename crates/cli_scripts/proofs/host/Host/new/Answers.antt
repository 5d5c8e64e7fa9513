use Rattle.std.proofs.Common.{◌++◌, ap, ◌∙◌}
use Rattle.script_screens.specs.Laws.{is_whole}
use Rattle.cli_scripts.specs.Answers.{printed_text}
use Rattle.cli_scripts.proofs.DataLines.{printed_whole}
use Rattle.cli_scripts.proofs.host.Host.new.Goals as goal

pub invariant_of-result : goal.invariant_of-result
invariant_of-result c =
    ap is_whole (c.in_ok-push_printed.ensures ∙ ap (λ z. z ++ printed_text c.args.name.now) c.new-printed.ensures.items) ∙ printed_whole c.args.name.now
