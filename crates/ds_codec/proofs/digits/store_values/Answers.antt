use Rattle.std.proofs.Common.{◌≡◌, ◌≤◌, ◌⊎◌, ℕ, max, inl, inr, Some, slice_index, arith}
use Rattle.hex.specs.Hex.{hex_digit_value}
use Rattle.ds_codec.proofs.DigitPairs.{stored}
use Rattle.ds_codec.proofs.digits.store_values.Goals as goal

one_of : (worst value : ℕ) → 16 ≤ max worst value → (16 ≤ worst) ⊎ (16 ≤ value)
one_of worst value large = grind arith

pub values-init : goal.values-init
values-init c = (λ k below. absurd (omega (arith, below)), λ small k below. absurd (omega (arith, below)), λ large. absurd (omega (arith, large)))

pub values-preserved : goal.values-preserved
values-preserved c =
    let value = c.value_of-value.result in
    let worst = c.max-worst.ensures in
    let room = c.values-test.true in (
      stored (λ k v. v ≤ c.max-worst.result) c.values.values c.values.i value (omega arith)
          (λ k below. let before = c.values.invariant.0 k below in grind (arith, before, worst)) (grind (arith, worst)),
      λ small. stored (λ k v. hex_digit_value (slice_index c.args.digits.now k) ≡ Some v) c.values.values c.values.i value (omega arith)
          (c.values.invariant.1 (grind (arith, small, worst))) (c.value_of-value.ensures.some (grind (arith, small, worst))),
      λ large. elim (one_of c.values.worst value (grind (arith, large, worst))) [
        | inl before ↦ c.values.invariant.2 before
        | inr here ↦ (c.values.i, c.values-test.true, c.value_of-value.ensures.none here)
      ],
    )

pub returns-clause-largest : goal.returns-clause-largest
returns-clause-largest c k inside = c.values.invariant.0 k (omega arith)

pub returns-clause-values : goal.returns-clause-values
returns-clause-values c small k inside = c.values.invariant.1 small k (omega arith)

pub returns-clause-others : goal.returns-clause-others
returns-clause-others c = c.values.invariant.2
