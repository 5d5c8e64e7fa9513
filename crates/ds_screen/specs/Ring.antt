-- Positions form a ring: after the last of n comes 0. A search goes by least distance.
use Rattle.std.specs.Prelude.{ℕ, zero, suc, ◌+◌, ◌-◌, Bool, Option, Some, None, option_map, nat_lt, nat_le, if◌then◌else◌}

-- the position that stands d steps on from p
unfoldable pub ring_on : ℕ → ℕ → ℕ → ℕ
ring_on n p d = if nat_lt (p + d) n then p + d else p + d - n

-- the position that stands d steps back from p
unfoldable pub ring_back : ℕ → ℕ → ℕ → ℕ
ring_back n p d = if nat_le d p then p - d else p + n - d

-- the steps from q on to p
unfoldable pub ring_distance : ℕ → ℕ → ℕ → ℕ
ring_distance n q p = if nat_le q p then p - q else n + p - q

-- the least number below n that passes the test
unfoldable pub least : ℕ → (ℕ → Bool) → Option ℕ
least zero test = None
least (suc n) test = if test 0 then Some 0 else option_map suc (least n (λ d. test (suc d)))

-- the greatest number below n that passes the test
unfoldable pub greatest : ℕ → (ℕ → Bool) → Option ℕ
greatest zero test = None
greatest (suc n) test = if test n then Some n else greatest n test

-- the first of n places, one after the other, that passes the test
abbrev pub nearest : ℕ → (ℕ → ℕ) → (ℕ → Bool) → Option ℕ
nearest n place test = option_map place (least n (λ d. test (place d)))
