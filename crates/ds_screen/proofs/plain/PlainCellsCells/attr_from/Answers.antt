use Rattle.std.proofs.Common.{◌≡◌, sym, ◌∙◌, ap, arith, below_more, false}
use Rattle.ds_screen.specs.Ring.{ring_on}
use Rattle.ds_screen.specs.Picture.{cell_at}
use Rattle.ds_screen.specs.Fields.{is_attribute}
use Rattle.ds_screen.proofs.RingLaws.{on-zero, on_more}
use Rattle.ds_screen.proofs.FieldLaws.{from_found, from_none}
use Rattle.ds_screen.proofs.plain.PlainCellsCells.attr_from.Goals as goal

pub steps-init : goal.steps-init
steps-init c = record { at_steps = sym (on-zero _ _ (omega arith)); inside = omega arith; misses = λ d below. absurd (omega arith) }

pub returns-then-is_field-clause-nearest : goal.returns-then-is_field-clause-nearest
returns-then-is_field-clause-nearest c =
    from_found c.args.self.now.cells.items c.len-n.result c.args.p c.steps.steps c.steps.at (c.len-n.ensures) (omega arith)
    c.steps.invariant.at_steps c.steps.invariant.misses
    (ap is_attribute (sym c.cell.ensures) ∙ sym c.is_field.ensures ∙ c.if-is_field.true)

pub steps-preserved : goal.steps-preserved
steps-preserved c =
    let further = on_more c.len-n.result c.args.p c.steps.steps (omega arith) (omega arith) in
    let missed : is_attribute (cell_at c.args.self.now.cells.items c.steps.at) ≡ false =
    ap is_attribute (sym c.cell.ensures) ∙ sym c.is_field.ensures ∙ c.if-is_field.false in
    record {
      at_steps = c.next-at.ensures.on ∙ ap (λ q. ring_on c.len-n.result q 1) c.steps.invariant.at_steps ∙ further;
      inside = omega arith;
      misses = below_more _ _ c.steps.invariant.misses (ap (λ q. is_attribute (cell_at c.args.self.now.cells.items q)) (sym c.steps.invariant.at_steps) ∙ missed);
    }

pub returns-clause-nearest : goal.returns-clause-nearest
returns-clause-nearest c =
    let done : c.steps.steps ≡ c.len-n.result = omega arith in
    from_none c.args.self.now.cells.items c.len-n.result c.args.p (c.len-n.ensures)
    (λ d below. c.steps.invariant.misses d (omega arith))
