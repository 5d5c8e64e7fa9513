use Rattle.std.proofs.Common.{◌-◌, arith}
use Rattle.std.proofs.lemmas.Nat.{mul-add-lt}
use Rattle.scr_layout.proofs.field.place_of.Goals as goal

pub returns-clause-inside : goal.returns-clause-inside
returns-clause-inside c =
    let row = c.in-Some.ensures.bounds in
    let col = c.in-Some-from_one_to.ensures.bounds in
    rw c.from-3.ensures (omega (arith, mul-add-lt (c.in-Some.row - 1) c.args.size.cols (c.in-Some-from_one_to.col - 1) c.args.size.rows (omega (arith, row, c.from.ensures)) (omega (arith, col, c.from-2.ensures))))
