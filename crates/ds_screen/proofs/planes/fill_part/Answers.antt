use Rattle.std.proofs.Common.{◌&&◌, cond, leb, ltb, get_or, ◌∙◌, ap, arith}
use Rattle.ds_screen.proofs.PlaneLaws.{part_none, part_more}
use Rattle.ds_screen.proofs.planes.fill_part.Goals as goal

pub indexes-init : goal.indexes-init
indexes-init g c = λ p d. part_none c.args.items.now c.args.from c.args.value p d

pub indexes-preserved : goal.indexes-preserved
indexes-preserved g c =
    part_more c.args.items.now c.indexes.items c.args.from c.indexes.i c.args.value c.indexes.auto.i (omega (arith, c.indexes.auto.items, c.indexes-test.true, c.requires.inside)) c.indexes.invariant

pub returns-clause-each : goal.returns-clause-each
returns-clause-each g c = λ p d.
    c.indexes.invariant p d ∙ ap (λ to. cond (leb c.args.from p && ltb p to) c.args.value (get_or c.args.items.now p d)) (omega (arith, c.indexes.auto.i-end c.requires.order, c.indexes-test.false))

pub returns-then-to-from-eq1-clause-each : goal.returns-then-to-from-eq1-clause-each
returns-then-to-from-eq1-clause-each g c = λ p d.
    part_more c.args.items.now c.args.items.now c.args.from c.args.from c.args.value (omega arith) (omega (arith, c.if-to-from-eq1.true)) (part_none c.args.items.now c.args.from c.args.value) p d
    ∙ ap (λ to. cond (leb c.args.from p && ltb p to) c.args.value (get_or c.args.items.now p d)) (omega (arith, c.if-to-from-eq1.true))
