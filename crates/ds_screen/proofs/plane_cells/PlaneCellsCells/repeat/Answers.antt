use Rattle.std.proofs.Common.{ℕ, length, cond, eqb, refl, sym, ◌∙◌, ap, subst, arith}
use Rattle.ds_codec.specs.declared.cell.Cell.TheVariants.{Char}
use Rattle.ds_places.specs.Places.{is_round}
use Rattle.ds_screen.specs.Ring.{ring_distance}
use Rattle.ds_screen.specs.Picture.{cell_at, ruled}
use Rattle.ds_screen.specs.Orders.{repeated_cell}
use Rattle.ds_screen.specs.Planes.{Held}
use Rattle.ds_screen.specs.Listed.{AreListed}
use Rattle.ds_screen.proofs.RuledLaws.{length-ruled}
use Rattle.ds_screen.proofs.ListedLaws.{fill_loses}
use Rattle.ds_screen.proofs.IndexLaws.{repeat_cells}
use Rattle.ds_screen.proofs.plane_cells.PlaneCellsCells.repeat.Goals as goal

pub cut_round-requires-clause-listed : goal.cut_round-requires-clause-listed
cut_round-requires-clause-listed c = (c.self.inside.planes.cells, c.self.invariant.0, sym c.len-n.ensures.count)

pub invariant_of-self : goal.invariant_of-self
invariant_of-self c =
    let cells = c.self.inside.planes.cells in
    let n : ℕ = length cells in (
      subst (AreListed c.cut_round.new.self) (sym (ap (λ (u : Held). u.cells) c.fill_round.ensures.filled))
          (c.cut_round.ensures.cut cells (ruled n (λ p. cond (is_round n c.args.b c.reach-steps.result p) (Char c.args.character) (cell_at cells p))) c.self.invariant.0
          (fill_loses cells c.len-n.result c.args.b c.reach-steps.result c.args.character c.len-n.ensures.count)),
      omega (arith, ap (λ (u : Held). u.room) c.fill_round.ensures.filled, c.cut_round.ensures.room, c.self.invariant.1),
    )

pub returns-clause-stored : goal.returns-clause-stored
returns-clause-stored c =
    let cells = c.self.inside.planes.cells in
    ap (λ (u : Held). u.cells) c.fill_round.ensures.filled
    ∙ repeat_cells cells (length cells) c.args.b c.args.stop c.reach-steps.result c.args.character refl
    (omega (arith, c.requires.inside, ap (λ (u : Held). length u.cells) c.self.view_is)) (omega (arith, c.reach-steps.ensures.within, c.len-n.ensures.count))
    (c.reach-steps.ensures.steps ∙ ap (λ n. cond (eqb c.args.b c.args.stop) n (ring_distance n c.args.b c.args.stop)) c.len-n.ensures.count)
    ∙ ap (λ (u : Held). ruled (length u.cells) (repeated_cell u.cells c.args.b c.args.stop c.args.character)) c.self.view_is

pub returns-clause-whole : goal.returns-clause-whole
returns-clause-whole c =
    ap (λ (u : Held). length u.cells) c.fill_round.ensures.filled ∙ length-ruled (length c.self.inside.planes.cells) _ ∙ ap (λ (u : Held). length u.cells) c.self.view_is
