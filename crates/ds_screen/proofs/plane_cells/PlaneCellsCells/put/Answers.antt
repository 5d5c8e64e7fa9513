use Rattle.std.proofs.Common.{length, sym, ap, subst, arith}
use Rattle.ds_screen.specs.Planes.{Held}
use Rattle.ds_screen.specs.Listed.{AreListed}
use Rattle.ds_screen.proofs.plane_cells.PlaneCellsCells.put.Goals as goal

pub invariant_of-self : goal.invariant_of-self
invariant_of-self c =
    let cells = c.self.inside.planes.cells in (
      subst (AreListed c.note.new.self) (sym (ap (λ (u : Held). u.cells) c.put.ensures.stored))
          (c.note.ensures.noted cells c.args.cell c.self.invariant.0 (omega (arith, c.requires, ap (λ (u : Held). length u.cells) c.self.view_is)) c.attribute_in-is.ensures),
      omega (arith, ap (λ (u : Held). u.room) c.put.ensures.stored, c.note.ensures.room, c.self.invariant.1),
    )
