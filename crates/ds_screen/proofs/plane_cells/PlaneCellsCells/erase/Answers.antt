use Rattle.std.proofs.Common.{cond, eqb, length, ◌∙◌, ap}
use Rattle.ds_screen.specs.Ring.{ring_distance}
use Rattle.ds_screen.specs.Planes.{Held, erased_for}
use Rattle.ds_screen.proofs.RuledLaws.{length-ruled}
use Rattle.ds_screen.proofs.EraseLaws.{erase_done}
use Rattle.ds_screen.proofs.plane_cells.PlaneCellsCells.erase.Goals as goal

pub returns-clause-stored : goal.returns-clause-stored
returns-clause-stored c =
    ap (λ (u : Held). u.cells) c.erase_for.ensures.erased
    ∙ erase_done c.args.self.now.cells c.args.b c.args.stop c.reach-steps.result c.requires.inside
    (c.reach-steps.ensures.steps
    ∙ ap (λ n. cond (eqb c.args.b c.args.stop) n (ring_distance n c.args.b c.args.stop)) (c.len.ensures.count ∙ ap (λ (u : Held). length u.cells) c.self.view_is))

pub returns-clause-whole : goal.returns-clause-whole
returns-clause-whole c =
    ap (λ (u : Held). length u.cells) c.erase_for.ensures.erased
    ∙ length-ruled (length c.args.self.now.cells) (erased_for c.args.self.now.cells c.args.b c.reach-steps.result)
