use Rattle.std.proofs.Common.{length, ◌∙◌, ap}
use Rattle.ds_screen.specs.Ring.{ring_on}
use Rattle.ds_screen.specs.Planes.{Held}
use Rattle.ds_screen.proofs.StartLaws.{start_here, start_round, start_never}
use Rattle.ds_screen.proofs.plane_cells.PlaneCells.start_from.Goals as goal

pub returns-in-Some-clause-start : goal.returns-in-Some-clause-start
returns-in-Some-clause-start c =
    c.next.ensures.on ∙ ap (λ n. ring_on n c.in-Some.q 1) (c.len-n.ensures.count ∙ ap (λ (u : Held). length u.cells) c.self.view_is)
    ∙ start_here c.args.self.now.cells c.args.from c.in-Some.q c.requires c.in-Some.ensures

pub returns-in-Some-opening_from-clause-start : goal.returns-in-Some-opening_from-clause-start
returns-in-Some-opening_from-clause-start c =
    c.next-in-Some-opening_from.ensures.on ∙ ap (λ n. ring_on n c.in-Some-opening_from.q 1) (c.len-n.ensures.count ∙ ap (λ (u : Held). length u.cells) c.self.view_is)
    ∙ start_round c.args.self.now.cells c.args.from c.in-Some-opening_from.q c.requires c.in_default.ensures c.in-Some-opening_from.ensures

pub returns-in-None-clause-start : goal.returns-in-None-clause-start
returns-in-None-clause-start c = start_never c.args.self.now.cells c.args.from c.requires c.in-None.ensures
