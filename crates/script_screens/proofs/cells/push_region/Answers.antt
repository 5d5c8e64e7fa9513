use Rattle.script_screens.specs.Lines.{data_line}
use Rattle.script_screens.specs.Cells.{line_of}
use Rattle.script_screens.proofs.Pushed.{one_more_line}
use Rattle.script_screens.proofs.cells.push_region.Goals as goal

pub loop-line-preserved : goal.loop-line-preserved
loop-line-preserved c =
    one_more_line data_line (line_of c.args.code_page c.args.form c.args.screen.now c.args.region) c.loop-line.line c.args.out.now.items c.loop-line.out.items _ c.loop-line.invariant
    c.in_ok-push_line_of.ensures
