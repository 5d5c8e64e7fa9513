use Rattle.std.proofs.Common.{length, sym, ◌∙◌, ap, subst, arith}
use Rattle.std.specs.Option.{unwrap_or}
use Rattle.ds_places.specs.Nearest.{IsFirstFrom}
use Rattle.ds_screen.specs.Picture.{ruled}
use Rattle.ds_screen.specs.Fields.{is_attribute}
use Rattle.ds_screen.specs.Orders.{nulled_cell, first_from}
use Rattle.ds_screen.specs.Planes.{Held, itself, filled_cell}
use Rattle.ds_screen.specs.Listed.{AreListed}
use Rattle.ds_screen.proofs.RuledLaws.{length-ruled}
use Rattle.ds_screen.proofs.ListedLaws.{index_of, null_listed}
use Rattle.ds_screen.proofs.IndexLaws.{null_place, null_cells}
use Rattle.ds_screen.proofs.plane_cells.PlaneCellsCells.null_to_attribute.Goals as goal

pub invariant_of-self : goal.invariant_of-self
invariant_of-self c =
    let cells = c.self.inside.planes.cells in
    let listed = index_of c.self.inside.index cells c.self.invariant.0 in
    let found : IsFirstFrom itself c.self.inside.index.all c.args.b c.first_from.result = subst (λ xs. IsFirstFrom itself xs c.args.b c.first_from.result) c.all.ensures c.first_from.ensures in
    let both = null_place c.self.inside.index.all cells c.len-n.result c.args.b c.first_from.result listed c.len-n.ensures.count found in (
      subst (AreListed c.self.inside.index) (sym (ap (λ (u : Held). u.cells) c.fill.ensures.filled))
          (null_listed c.self.inside.index cells c.args.b c.unwrap_or-stop.result c.null.result c.self.invariant.0
          (λ p from below. both.1 p from (omega (arith, below, c.unwrap_or-stop.ensures)))),
      omega (arith, ap (λ (u : Held). u.room) c.fill.ensures.filled, c.self.invariant.1),
    )

pub returns-clause-place : goal.returns-clause-place
returns-clause-place c =
    let cells = c.self.inside.planes.cells in
    let listed = index_of c.self.inside.index cells c.self.invariant.0 in
    let found : IsFirstFrom itself c.self.inside.index.all c.args.b c.first_from.result = subst (λ xs. IsFirstFrom itself xs c.args.b c.first_from.result) c.all.ensures c.first_from.ensures in
    c.unwrap_or-stop.ensures
    ∙ (null_place c.self.inside.index.all cells c.len-n.result c.args.b c.first_from.result listed c.len-n.ensures.count found).0
    ∙ ap (λ (u : Held). unwrap_or (first_from is_attribute u.cells c.args.b) (length u.cells)) c.self.view_is

pub returns-clause-nulled : goal.returns-clause-nulled
returns-clause-nulled c =
    ap (λ (u : Held). u.cells) c.fill.ensures.filled
    ∙ ap (λ g. ruled (length c.self.inside.planes.cells) (filled_cell c.self.inside.planes.cells c.args.b c.unwrap_or-stop.result g)) c.null.ensures
    ∙ null_cells c.self.inside.planes.cells c.args.b c.unwrap_or-stop.result
    ∙ ap (λ (u : Held). ruled (length u.cells) (nulled_cell u.cells c.args.b c.unwrap_or-stop.result)) c.self.view_is

pub returns-clause-whole : goal.returns-clause-whole
returns-clause-whole c =
    ap (λ (u : Held). length u.cells) c.fill.ensures.filled ∙ length-ruled (length c.self.inside.planes.cells) _ ∙ ap (λ (u : Held). length u.cells) c.self.view_is
