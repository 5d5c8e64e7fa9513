use Rattle.std.proofs.Common.{subst}
use Rattle.ds_places.specs.Nearest.{IsFirstFrom}
use Rattle.ds_screen.specs.Planes.{Held, itself, IsIndex}
use Rattle.ds_screen.proofs.HalvingLaws.{from_ahead, from_again}
use Rattle.ds_screen.proofs.ListedLaws.{index_of}
use Rattle.ds_screen.proofs.plane_cells.PlaneCellsCells.attr_near.Goals as goal

pub returns-in-Some-clause-nearest : goal.returns-in-Some-clause-nearest
returns-in-Some-clause-nearest c =
    from_ahead c.self.inside.index.all c.args.self.now.cells c.args.p c.in-Some.q
    (subst (λ (u : Held). IsIndex c.self.inside.index.all u.cells) c.self.view_is (index_of c.self.inside.index c.self.inside.planes.cells c.self.invariant.0))
    c.in-Some.ensures

pub returns-clause-nearest : goal.returns-clause-nearest
returns-clause-nearest c =
    from_again c.self.inside.index.all c.args.self.now.cells c.args.p c.first_from.result
    (subst (λ (u : Held). IsIndex c.self.inside.index.all u.cells) c.self.view_is (index_of c.self.inside.index c.self.inside.planes.cells c.self.invariant.0)) c.requires
    c.in_default.ensures
    (subst (λ xs. IsFirstFrom itself xs 0 c.first_from.result) c.all.ensures c.first_from.ensures)
