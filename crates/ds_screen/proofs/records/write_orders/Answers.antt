use Rattle.ds_screen.proofs.ActLaws.{content_done}
use Rattle.ds_screen.proofs.records.write_orders.Goals as goal

pub returns-clause-done : goal.returns-clause-done
returns-clause-done g c =
    content_done g.C.Cells.content c.args.cells.now c.write_on.new.surface c.args.outbound.now.orders c.args.wcc c.args.cursor c.write_on.result c.write_on.ensures.done
