use Rattle.std.proofs.Common.{sym, ap, subst, arith}
use Rattle.ds_screen.specs.Planes.{Held}
use Rattle.ds_screen.specs.Listed.{AreListed}
use Rattle.ds_screen.proofs.plane_cells.PlaneCellsCells.clear.Goals as goal

pub invariant_of-self : goal.invariant_of-self
invariant_of-self c = (
  subst (AreListed c.clear.new.self) (sym (ap (λ (u : Held). u.cells) c.clear-2.ensures.nulls)) (c.clear.ensures.empty c.args.n),
  omega (arith, ap (λ (u : Held). u.room) c.clear-2.ensures.nulls, c.clear.ensures.room, c.self.invariant.1),
)
