use Rattle.std.proofs.Common.{arith}
use Rattle.cli_characters.proofs.KeyLines.{here, later, last, shorter}
use Rattle.cli_characters.proofs.strokes.line_of.Goals as goal

pub returns-then-left-count : goal.returns-then-left-count
returns-then-left-count c =
    here c.loop-line.number c.loop-line.left c.count_of-count.result _ c.loop-line.rest.now c.in-Some.line.now c.in-Some.others.now c.loop-line.invariant.same c.in-Some.ensures c.count_of-count.ensures c.if-left-count.true

pub loop-line-preserved : goal.loop-line-preserved
loop-line-preserved c = record {
  same = later c.loop-line.number c.loop-line.left c.count_of-count.result _ c.loop-line.rest.now c.in-Some.line.now c.in-Some.others.now c.loop-line.invariant.same c.in-Some.ensures c.count_of-count.ensures (omega (arith, c.if-left-count.false));
  few = omega (arith, c.loop-line.invariant.few, shorter c.loop-line.rest.now c.in-Some.line.now c.in-Some.others.now c.in-Some.ensures);
}

pub returns : goal.returns
returns c = last c.loop-line.number c.loop-line.left _ c.loop-line.rest.now c.loop-line.invariant.same c.in_default.ensures
