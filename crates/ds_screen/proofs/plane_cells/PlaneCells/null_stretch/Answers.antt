use Rattle.std.proofs.Common.{not, length, sym, ◌∙◌, ap, subst, arith, cond}
use Rattle.ds_codec.specs.declared.cell.Cell.TheVariants.{Char}
use Rattle.ds_codec.specs.Attribute.{is_protected}
use Rattle.ds_places.specs.Places.{is_round}
use Rattle.ds_screen.specs.Picture.{cell_at, ruled}
use Rattle.ds_screen.specs.Planes.{Held, HasNone, stretch_cell}
use Rattle.ds_screen.specs.Listed.{AreListed}
use Rattle.ds_screen.proofs.ListedLaws.{stretch_listed}
use Rattle.ds_screen.proofs.StretchLaws.{stretch_filled, stretch_left}
use Rattle.ds_screen.proofs.plane_cells.PlaneCells.null_stretch.Goals as goal

pub invariant_of-self : goal.invariant_of-self
invariant_of-self c =
    let cells = c.self.inside.planes.cells in
    let len = ap (λ (u : Held). length u.cells) c.self.view_is in
    let free = ap not (sym c.protected.ensures ∙ c.if-not-protected.true) in
    let none : HasNone cells c.args.at c.args.run = subst (λ (u : Held). HasNone u.cells c.args.at c.args.run) (sym c.self.view_is) c.requires.characters in (
      subst (AreListed c.self.inside.index)
          (sym (ap (λ (u : Held). u.cells) c.fill_round.ensures.filled
          ∙ ap (λ g. ruled (length cells) (λ p. cond (is_round (length cells) c.args.at c.args.run p) (Char g) (cell_at cells p))) c.null.ensures
          ∙ stretch_filled cells c.args.at c.args.run (not (is_protected c.args.bits)) free (omega (arith, c.requires.inside, len)) (omega (arith, c.requires.few, len))))
          (stretch_listed c.self.inside.index cells c.args.at c.args.run (not (is_protected c.args.bits)) c.self.invariant.0 (omega (arith, c.requires.inside, len)) none),
      omega (arith, ap (λ (u : Held). u.room) c.fill_round.ensures.filled, c.self.invariant.1),
    )

pub returns-then-not-protected : goal.returns-then-not-protected
returns-then-not-protected c =
    let cells = c.self.inside.planes.cells in
    let len = ap (λ (u : Held). length u.cells) c.self.view_is in
    let free = ap not (sym c.protected.ensures ∙ c.if-not-protected.true) in
    let after =
    ap (λ g. ruled (length cells) (λ p. cond (is_round (length cells) c.args.at c.args.run p) (Char g) (cell_at cells p))) c.null.ensures
    ∙ stretch_filled cells c.args.at c.args.run (not (is_protected c.args.bits)) free (omega (arith, c.requires.inside, len)) (omega (arith, c.requires.few, len)) in
    record {
      nulled =
          c.fill_round.ensures.filled
          ∙ ap (λ l. let h : Held = record { cells = l; room = c.self.inside.planes.room } in h) after
          ∙ ap (λ (u : Held). let h : Held = record { cells = ruled (length u.cells) (stretch_cell u.cells c.args.at c.args.run (not (is_protected c.args.bits))); room = u.room } in h) c.self.view_is;
    }

pub returns-else-not-protected : goal.returns-else-not-protected
returns-else-not-protected c =
    let shut = ap not (sym c.protected.ensures ∙ c.if-not-protected.false) in
    record {
      nulled = ap (λ l. let h : Held = record { cells = l; room = c.args.self.now.room } in h)
          (stretch_left c.args.self.now.cells c.args.at c.args.run (not (is_protected c.args.bits)) shut);
    }
