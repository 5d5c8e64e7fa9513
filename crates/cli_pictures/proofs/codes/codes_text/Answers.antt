use Rattle.std.proofs.Common.{[]}
use Rattle.std.specs.String.{string_bytes}
use Rattle.cli_commands.proofs.Rows.{one_more}
use Rattle.cli_pictures.specs.Codes.{code_on}
use Rattle.cli_pictures.proofs.codes.codes_text.Goals as goal

pub loop-steps-preserved : goal.loop-steps-preserved
loop-steps-preserved c =
    one_more (code_on c.args.screen.now.cells c.args.start) c.loop-steps.steps [] (string_bytes c.loop-steps.text) _ c.loop-steps.invariant
    c.in_ok-push_code.ensures
