use Rattle.std.proofs.Common.{length, sym, ◌∙◌, ap, subst, arith}
use Rattle.ds_screen.specs.Planes.{Held}
use Rattle.ds_screen.specs.Listed.{AreListed}
use Rattle.ds_screen.proofs.RuledLaws.{length-ruled}
use Rattle.ds_screen.proofs.ListedLaws.{index_of, reset_listed}
use Rattle.ds_screen.proofs.plane_cells.PlaneCellsCells.reset_modified.Goals as goal

pub reset_listed-requires : goal.reset_listed-requires
reset_listed-requires c = index_of c.self.inside.index c.self.inside.planes.cells c.self.invariant.0

pub invariant_of-self : goal.invariant_of-self
invariant_of-self c = (
  subst (AreListed c.self.inside.index) (sym (ap (λ (u : Held). u.cells) c.reset_listed.ensures.reset))
      (reset_listed c.self.inside.index c.self.inside.planes.cells c.args.which c.self.invariant.0),
  omega (arith, ap (λ (u : Held). u.room) c.reset_listed.ensures.reset, c.self.invariant.1),
)

pub returns-clause-whole : goal.returns-clause-whole
returns-clause-whole c =
    ap (λ (u : Held). length u.cells) c.reset_listed.ensures.reset ∙ length-ruled (length c.self.inside.planes.cells) _ ∙ ap (λ (u : Held). length u.cells) c.self.view_is
