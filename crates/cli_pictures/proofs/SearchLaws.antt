-- The first number below a bound that passes a test, or the bound.
use Rattle.std.proofs.Common.{◌≡◌, ℕ, ◌<◌, Bool, true, false, refl}
use Rattle.std.specs.Prelude.{unwrap_or}
use Rattle.ds_screen.specs.Ring.{least}
use Rattle.ds_screen.proofs.RingLaws.{least_at, least_none}

pub is_first : (most k : ℕ) (test : ℕ → Bool) → k < most → ((d : ℕ) → d < k → test d ≡ false) → test k ≡ true → k ≡ unwrap_or (least most test) most
is_first most k test lt misses hit = rw (least_at most k test lt misses hit) refl

pub is_last : (most : ℕ) (test : ℕ → Bool) → ((d : ℕ) → d < most → test d ≡ false) → most ≡ unwrap_or (least most test) most
is_last most test misses = rw (least_none most test misses) refl
