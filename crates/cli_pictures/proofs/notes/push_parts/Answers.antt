use Rattle.std.specs.String.{string_bytes}
use Rattle.cli_commands.proofs.Rows.{one_more}
use Rattle.cli_pictures.specs.Notes.{part_element}
use Rattle.cli_pictures.proofs.notes.push_parts.Goals as goal

pub loop-steps-preserved : goal.loop-steps-preserved
loop-steps-preserved c =
    one_more (part_element c.args.screen.now c.args.p c.args.count c.args.words.now) c.loop-steps.steps (string_bytes c.args.out.now) (string_bytes c.loop-steps.out) _ c.loop-steps.invariant
    c.in_ok-push_part.ensures
