use Rattle.std.proofs.Common.{◌∙◌, arith}
use Rattle.hex.specs.Hex.{upper_digits}
use Rattle.order_lines.proofs.Halves.{are_encoded}
use Rattle.order_lines.proofs.print.store_digits.Goals as goal

pub returns : goal.returns
returns c =
    let stored = c.store_halves.ensures in
    are_encoded upper_digits c.store_joined.new.digits c.args.bytes.now (c.store_joined.ensures.whole ∙ c.requires.two)
    (λ k below.
    let here = c.store_joined.ensures.joined k (omega (arith, below, stored.whole.0)) in
    (here.0 ∙ stored.high k below, here.1 ∙ stored.low k below))
