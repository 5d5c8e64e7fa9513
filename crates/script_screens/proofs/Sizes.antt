-- Sizes of screens.
use Rattle.std.proofs.Common.{◌<◌, arith, inl, inr}
use Rattle.ds_screen.specs.Picture.{Picture, IsSound}

pub wide : (v : Picture) → IsSound v → 0 < v.size.cols
wide v sound = elim sound.one_of_two [
  | inl is ↦ rw is (let two = sound.default_good.two_cols in omega (arith, two))
  | inr is ↦ rw is (let two = sound.alternate_good.two_cols in omega (arith, two))
]
