use Rattle.std.proofs.Common.{arith}
use Rattle.std.proofs.lemmas.List.{length-drop}
use Rattle.bms_source.proofs.columns.first_bad.Goals as goal

pub returns-in-None-Some-clause-inside : goal.returns-in-None-Some-clause-inside
returns-in-None-Some-clause-inside c =
    let inside = rw c.in-None-Some.is-1 at c.first_other.ensures.inside in
    let part = rw c.rest.ensures at inside in
    omega (arith, part, length-drop 80 c.args.columns.now)
