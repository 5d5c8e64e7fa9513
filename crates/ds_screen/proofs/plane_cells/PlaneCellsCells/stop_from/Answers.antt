use Rattle.std.proofs.Common.{length, ◌∙◌, ap, arith}
use Rattle.ds_screen.specs.Ring.{ring_on}
use Rattle.ds_screen.specs.Planes.{Held}
use Rattle.ds_screen.proofs.ListedLaws.{stop_found, stop_nowhere}
use Rattle.ds_screen.proofs.plane_cells.PlaneCellsCells.stop_from.Goals as goal

pub next-requires : goal.next-requires
next-requires c =
    omega (arith, c.in-Some.ensures.1, ap (λ (u : Held). length u.cells) c.self.view_is, c.len.ensures.count)

pub returns-in-Some-clause-stop : goal.returns-in-Some-clause-stop
returns-in-Some-clause-stop c =
    let cells = c.args.self.now.cells in
    c.next.ensures.on ∙ ap (λ n. ring_on n c.in-Some.q 1) (c.len.ensures.count ∙ ap (λ (u : Held). length u.cells) c.self.view_is)
    ∙ stop_found cells c.args.from c.in-Some.q c.in-Some.ensures

pub returns-in-None-clause-stop : goal.returns-in-None-clause-stop
returns-in-None-clause-stop c =
    let cells = c.args.self.now.cells in
    stop_nowhere cells c.args.from c.in-None.ensures
