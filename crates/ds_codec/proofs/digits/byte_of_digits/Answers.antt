use Rattle.std.proofs.Common.{inl, inr, sym}
use Rattle.ds_codec.proofs.DigitPairs.{of_digits, of_others}
use Rattle.ds_codec.proofs.digits.byte_of_digits.Goals.{else-high-lt16-via-then-high-lt16+else-low-lt16, else-high-lt16-via-else-high-lt16}
use Rattle.ds_codec.proofs.digits.byte_of_digits.Goals as goal

pub returns-then-low-lt16 : goal.returns-then-low-lt16
returns-then-low-lt16 c =
    sym (of_digits _ _ _ _ (c.value_of-high.ensures.some c.if-high-lt16.true) (c.value_of-low.ensures.some c.if-low-lt16.true))

pub returns-else-high-lt16 : goal.returns-else-high-lt16
returns-else-high-lt16 c = of_others _ _ (elim c.else-high-lt16.either [
  | inl w ↦ inr (c.value_of-low.ensures.none w.1)
  | inr w ↦ inl (c.value_of-high.ensures.none w)
])
