use Rattle.std.proofs.Common.{refl}
use Rattle.ds_screen.proofs.ActLaws.{content_prepared}
use Rattle.ds_screen.proofs.records.prepare.Goals as goal

pub returns-clause-start : goal.returns-clause-start
returns-clause-start g c =
    content_prepared g.C.Cells.content c.prepare_on.new.spare (g.C.Cells.content c.args.cells.now) c.args.geometry.now c.args.now.size c.args.now.cursor c.args.command
    c.prepare_on.result (c.prepare_on.ensures.start (g.C.Cells.content c.args.cells.now) refl)
