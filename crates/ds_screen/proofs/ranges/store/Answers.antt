use Rattle.std.proofs.Common.{◌∙◌}
use Rattle.ds_screen.proofs.RunLaws.{single_set}
use Rattle.ds_screen.proofs.ranges.store.Goals as goal

pub returns-clause-stored : goal.returns-clause-stored
returns-clause-stored g c = c.put.ensures.stored ∙ single_set (g.C.Cells.content c.args.cells.now) c.args.b c.args.cell c.requires.inside
