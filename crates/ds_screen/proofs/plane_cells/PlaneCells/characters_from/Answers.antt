use Rattle.std.proofs.Common.{◌≡◌, length, ◌∙◌, ap, arith}
use Rattle.ds_screen.specs.Planes.{Held}
use Rattle.ds_screen.proofs.StretchLaws.{stretch_to, stretch_whole}
use Rattle.ds_screen.proofs.plane_cells.PlaneCells.characters_from.Goals as goal

pub returns-in-Some-clause-characters : goal.returns-in-Some-clause-characters
returns-in-Some-clause-characters c =
    let len : c.len.result ≡ length c.args.self.now.cells = c.len.ensures.count ∙ ap (λ (u : Held). length u.cells) c.self.view_is in
    (stretch_to c.args.self.now.cells c.len.result c.args.at c.args.most c.in-Some.q c.distance.result c.min.result len (omega (arith, c.requires.inside, len)) c.in-Some.ensures.nearest
    c.distance.ensures.steps c.min.ensures).0

pub returns-in-Some-clause-ends : goal.returns-in-Some-clause-ends
returns-in-Some-clause-ends c =
    let len : c.len.result ≡ length c.args.self.now.cells = c.len.ensures.count ∙ ap (λ (u : Held). length u.cells) c.self.view_is in
    (stretch_to c.args.self.now.cells c.len.result c.args.at c.args.most c.in-Some.q c.distance.result c.min.result len (omega (arith, c.requires.inside, len)) c.in-Some.ensures.nearest
    c.distance.ensures.steps c.min.ensures).1

pub returns-in-None-clause-characters : goal.returns-in-None-clause-characters
returns-in-None-clause-characters c = (stretch_whole c.args.self.now.cells c.args.at c.args.most c.requires.few c.in-None.ensures.nearest).0
