use Rattle.std.proofs.Common.{length, arith}
use Rattle.ds_codec.proofs.DigitPairs.{other_in_front, part_spelled}
use Rattle.ds_codec.proofs.digits.store_few.Goals as goal

pub returns-then-store_values-ge16-clause-others :
    goal.returns-then-store_values-ge16-clause-others
returns-then-store_values-ge16-clause-others c _ =
    other_in_front c.args.digits.now c.copy_from_slice.new.self (length c.args.digits.now) c.copy_from_slice.ensures.after (omega arith) (omega arith)
    (c.store_values.ensures.others c.if-store_values-ge16.true)

pub returns-clause-digits : goal.returns-clause-digits
returns-clause-digits c _ =
    let long = c.copy_from_slice-2.ensures.len in
    let whole = c.store_joined.ensures.whole in
    part_spelled c.args.digits.now c.copy_from_slice.new.self c.store_values.new.values c.store_joined.new.bytes c.copy_from_slice-2.new.self (length c.args.digits.now) (length c.copy_from_slice-2.new.self)
    c.copy_from_slice.ensures.after (omega arith) (omega (arith, long)) (omega (arith, long))
    (c.store_values.ensures.values c.if-store_values-ge16.false) (λ k below. c.store_joined.ensures.joined k (omega (arith, below, whole))) (rw long c.copy_from_slice-2.ensures.after)
