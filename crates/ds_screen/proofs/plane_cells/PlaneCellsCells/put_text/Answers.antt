use Rattle.std.proofs.Common.{length, sym, ◌∙◌, ap, subst, arith}
use Rattle.ds_screen.specs.Picture.{ruled}
use Rattle.ds_screen.specs.Orders.{text_cell}
use Rattle.ds_screen.specs.Planes.{Held}
use Rattle.ds_screen.specs.Listed.{AreListed}
use Rattle.ds_screen.proofs.RuledLaws.{length-ruled}
use Rattle.ds_screen.proofs.ListedLaws.{text_loses}
use Rattle.ds_screen.proofs.plane_cells.PlaneCellsCells.put_text.Goals as goal

pub cut_round-requires-clause-listed : goal.cut_round-requires-clause-listed
cut_round-requires-clause-listed c = (c.self.inside.planes.cells, c.self.invariant.0, sym c.len-n.ensures.count)

pub invariant_of-self : goal.invariant_of-self
invariant_of-self c =
    let cells = c.self.inside.planes.cells in (
      subst (AreListed c.cut_round.new.self) (sym (ap (λ (u : Held). u.cells) c.write_round.ensures.written))
          (c.cut_round.ensures.cut cells (ruled (length cells) (text_cell cells c.args.b c.args.run.now)) c.self.invariant.0
          (text_loses cells c.len-n.result c.args.b c.min-steps.result c.args.run.now c.len-n.ensures.count
          (omega (arith, c.requires.inside, c.len-n.ensures.count, ap (λ (u : Held). length u.cells) c.self.view_is)) c.min-steps.ensures)),
      omega (arith, ap (λ (u : Held). u.room) c.write_round.ensures.written, c.cut_round.ensures.room, c.self.invariant.1),
    )

pub returns-clause-whole : goal.returns-clause-whole
returns-clause-whole c =
    ap (λ (u : Held). length u.cells) c.write_round.ensures.written
    ∙ length-ruled (length c.self.inside.planes.cells) (text_cell c.self.inside.planes.cells c.args.b c.args.run.now)
    ∙ ap (λ (u : Held). length u.cells) c.self.view_is
