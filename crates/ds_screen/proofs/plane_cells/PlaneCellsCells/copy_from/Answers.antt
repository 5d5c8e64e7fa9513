use Rattle.std.proofs.Common.{length, sym, ap, subst, arith}
use Rattle.ds_screen.specs.Planes.{Held}
use Rattle.ds_screen.specs.Listed.{AreListed}
use Rattle.ds_screen.proofs.plane_cells.PlaneCellsCells.copy_from.Goals as goal

pub copy_from-requires : goal.copy_from-requires
copy_from-requires c = (
  c.other.inside.planes.cells,
  c.other.invariant.0,
  omega (arith, c.requires, c.self.invariant.1, ap (λ (u : Held). u.room) c.self.view_is, ap (λ (u : Held). length u.cells) c.other.view_is),
)

pub invariant_of-self : goal.invariant_of-self
invariant_of-self c = (
  subst (AreListed c.copy_from.new.self) (sym (ap (λ (u : Held). u.cells) c.copy_from-2.ensures.copied)) (c.copy_from.ensures.copied c.other.inside.planes.cells c.other.invariant.0),
  omega (arith, ap (λ (u : Held). u.room) c.copy_from-2.ensures.copied, c.copy_from.ensures.room, c.self.invariant.1),
)
