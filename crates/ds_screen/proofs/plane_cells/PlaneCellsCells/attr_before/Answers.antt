use Rattle.ds_screen.proofs.HalvingLaws.{before_inside}
use Rattle.ds_screen.proofs.plane_cells.PlaneCellsCells.attr_before.Goals as goal

pub returns-clause-nearest : goal.returns-clause-nearest
returns-clause-nearest c = c.attr_before_counted.ensures.nearest c.args.self.now.cells c.probed.ensures.index c.requires

pub returns-clause-inside : goal.returns-clause-inside
returns-clause-inside c = before_inside c.args.self.now.cells c.args.p c.attr_before_counted.result (returns-clause-nearest c)
