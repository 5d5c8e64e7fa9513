use Rattle.std.proofs.Common.{rules, ◌&&◌, cond, leb, ltb, get_or, Some, None, refl, ◌∙◌, ap, arith}
use Rattle.ds_screen.proofs.PlaneLaws.{part_none, part_more}
use Rattle.scr_check.proofs.origins.note_part.Goals as goal

pub positions-init : goal.positions-init
positions-init c = record { each = λ p d. part_none c.args.slots.now.items c.args.from (Some c.args.origin) p d; whole = refl }

pub positions-preserved : goal.positions-preserved
positions-preserved c =
    record {
      each = part_more c.args.slots.now.items c.positions.slots.items c.args.from c.positions.i (Some c.args.origin) c.positions.auto.i
          (omega (arith, c.positions.invariant.whole, c.positions.auto.i-end c.requires.order, c.positions-test.true, c.requires.inside)) c.positions.invariant.each;
      whole = search rules;
    }

pub returns-clause-noted : goal.returns-clause-noted
returns-clause-noted c = λ p.
    c.positions.invariant.each p None ∙ ap (λ to. cond (leb c.args.from p && ltb p to) (Some c.args.origin) (get_or c.args.slots.now.items p None)) (omega (arith, c.positions.auto.i-end c.requires.order, c.positions-test.false))
