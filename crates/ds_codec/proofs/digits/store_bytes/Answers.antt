use Rattle.std.proofs.Common.{◌+◌, ◌-◌, ◌*◌, ◌/◌, length, refl, arith}
use Rattle.ds_codec.proofs.DigitPairs.{one_part, last_part, other_in, refuses}
use Rattle.ds_codec.proofs.digits.store_bytes.Goals as goal

pub parts-init : goal.parts-init
parts-init c k below = absurd (omega (arith, below))

pub returns-then-not-store_whole-clause-others : goal.returns-then-not-store_whole-clause-others
returns-then-not-store_whole-clause-others c _ =
    refuses 0 c.args.digits.now (other_in c.args.digits.now _ (2 * (32 * c.parts.part)) (c.store_whole.ensures.others c.if-not-store_whole.true))

pub parts-preserved : goal.parts-preserved
parts-preserved c =
    let at = 32 * c.parts.part in
    let long = c.store_whole.ensures.whole in
    one_part c.args.digits.now c.parts.bytes c.store_whole.new.bytes at (at + 32 - at) (2 * at + 64 - 2 * at) (32 * (c.parts.part + 1))
    (omega arith) (grind (arith, long)) (grind (arith, long)) c.parts.invariant (c.store_whole.ensures.digits c.if-not-store_whole.false)

pub returns-clause-digits : goal.returns-clause-digits
returns-clause-digits c told =
    let at = 32 * (length c.args.bytes.now / 32) in
    let long = c.store_rest.ensures.whole in
    last_part c.args.digits.now c.parts.bytes c.store_rest.new.bytes at (length c.parts.bytes - at) (length c.args.digits.now - 2 * at)
    (omega arith) (grind (arith, long)) refl (omega arith) (grind (arith, long))
    (λ k below. c.parts.invariant k (omega (arith, below))) (c.store_rest.ensures.digits told)

pub returns-clause-others : goal.returns-clause-others
returns-clause-others c told =
    refuses 0 c.args.digits.now (other_in c.args.digits.now _ (2 * (32 * (length c.args.bytes.now / 32))) (c.store_rest.ensures.others told))
