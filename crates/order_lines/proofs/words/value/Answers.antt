use Rattle.order_lines.proofs.Digits.{too_large}
use Rattle.order_lines.proofs.words.value.Goals as goal

pub returns-then-value-gt4294967295 : goal.returns-then-value-gt4294967295
returns-then-value-gt4294967295 c =
    too_large c.loop-rest.value _ c.loop-rest.rest.now c.loop-rest.invariant.told c.in-len1-up.len_at_least c.loop-rest.invariant.digits
    (rw c.from.ensures at c.if-value-gt4294967295.true)
