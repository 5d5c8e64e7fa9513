use Rattle.script_screens.specs.Cells.{piece_text}
use Rattle.script_screens.proofs.Pushed.{one_more}
use Rattle.script_screens.proofs.cells.push_run.Goals as goal

pub loop-steps-preserved : goal.loop-steps-preserved
loop-steps-preserved c =
    one_more (piece_text c.args.code_page c.args.form c.args.screen.now.cells c.args.run.start) c.loop-steps.steps c.args.out.now.items c.loop-steps.out.items _ c.loop-steps.invariant
    c.in_ok-push_piece.ensures
