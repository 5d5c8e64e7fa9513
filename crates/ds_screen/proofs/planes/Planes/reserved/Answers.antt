use Rattle.std.proofs.Common.{◌∙◌, ap}
use Rattle.ds_screen.specs.Planes.{plane_cells}
use Rattle.ds_screen.proofs.PlaneLaws.{planes_none}
use Rattle.ds_screen.proofs.planes.Planes.reserved.Goals as goal

pub returns-clause-empty : goal.returns-clause-empty
returns-clause-empty c = ap (λ l. plane_cells l c.in_ok-kinds.kinds.items) c.in_ok-codes.ensures.items ∙ planes_none c.in_ok-kinds.kinds.items
