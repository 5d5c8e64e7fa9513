use Rattle.std.proofs.Common.{◌≡◌, true, arith, ◌∙◌}
use Rattle.script_keys.proofs.FillLaws.{ends_back, ends_here, reach_found, reach_none}
use Rattle.script_keys.proofs.fill.fill_reach.Goals as goal

pub returns-then-ends_fill-clause-reach : goal.returns-then-ends_fill-clause-reach
returns-then-ends_fill-clause-reach g c =
    let hit : ends_back c.args.screen.now.cells c.args.columns c.args.place c.steps.steps ≡ true =
    ends_here c.args.screen.now.cells c.position_count-n.result c.args.columns c.args.place c.steps.steps c.backward.result c.ends_fill.result c.position_count-n.ensures.count
    c.backward.ensures.back c.ends_fill.ensures ∙ c.if-ends_fill.true in
    reach_found c.args.screen.now.cells c.args.columns c.args.place c.steps.steps (omega (arith, c.steps-test.true, c.position_count-n.ensures.count)) c.steps.invariant hit

pub returns-clause-reach : goal.returns-clause-reach
returns-clause-reach g c =
    reach_none c.args.screen.now.cells c.args.columns c.args.place
    (λ e lt. c.steps.invariant e (omega (arith, c.steps-test.false, c.position_count-n.ensures.count)))
