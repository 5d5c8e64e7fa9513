use Rattle.std.proofs.Common.{arith}
use Rattle.ds_screen.proofs.PlaneLaws.{counted}
use Rattle.ds_screen.proofs.planes.Planes.len.Goals as goal

pub returns-clause-count : goal.returns-clause-count
returns-clause-count c =
    omega (arith, c.len.ensures, counted c.self.inside.codes.items c.self.inside.kinds.items c.self.inside.limit c.args.self.now c.self.view_is)
