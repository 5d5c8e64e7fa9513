use Rattle.std.proofs.Common.{◌∙◌}
use Rattle.ds_screen.proofs.NullLaws.{zeros_of}
use Rattle.ds_screen.proofs.planes.are_zeros.Goals as goal

pub returns-then-first-eq0 : goal.returns-then-first-eq0
returns-then-first-eq0 c =
    c.eq.ensures ∙ zeros_of c.in-Some.first.now c.in-Some.others.now c.args.codes.now c.if-first-eq0.true c.in-Some.ensures.cases.0
