use Rattle.std.proofs.Common.{◌∙◌}
use Rattle.buffer_lines.proofs.Pairs.{no_pair, pair_passed}
use Rattle.buffer_lines.proofs.cell.are_pairs.Goals as goal

pub loop-others-preserved : goal.loop-others-preserved
loop-others-preserved c = pair_passed c.args.text.now c.loop-others.rest.now c.in-Some.others.now c.loop-others.invariant c.in-Some.ensures.told

pub returns : goal.returns
returns c = c.is_end.ensures ∙ no_pair c.args.text.now c.loop-others.rest.now c.loop-others.invariant c.in_default.ensures.told
