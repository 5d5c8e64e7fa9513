-- Steps and distances on the ring, and what a search finds.
use Rattle.std.proofs.Common.{◌≡◌, ℕ, zero, suc, ◌+◌, ◌-◌, ◌<◌, ◌≤◌, ◌⊎◌, Bool, true, false, leb, ltb, Some, None, refl, ◌∙◌, ap, arith, inl, inr}
use Rattle.std.specs.Option.{option_map}
use Rattle.std.proofs.lemmas.Bool.{le-leb, lt-leb, lt-ltb, le-ltb, cond-true, cond-false, cases_lt, cases_Bool}
use Rattle.ds_screen.specs.Ring.{ring_on, ring_back, ring_distance, least}

pub on_inside : (n p d : ℕ) → p + d < n → ring_on n p d ≡ p + d
unfolding ring_on
on_inside n p d h = cond-true (ltb (p + d) n) _ _ (lt-ltb (p + d) n h)

pub on_round : (n p d : ℕ) → n ≤ p + d → ring_on n p d ≡ p + d - n
unfolding ring_on
on_round n p d h = cond-false (ltb (p + d) n) _ _ (le-ltb (p + d) n h)

pub back_inside : (n p d : ℕ) → d ≤ p → ring_back n p d ≡ p - d
unfolding ring_back
back_inside n p d h = cond-true (leb d p) _ _ (le-leb d p h)

pub back_round : (n p d : ℕ) → p < d → ring_back n p d ≡ p + n - d
unfolding ring_back
back_round n p d h = cond-false (leb d p) _ _ (lt-leb d p h)

pub distance_ahead : (n q p : ℕ) → q ≤ p → ring_distance n q p ≡ p - q
unfolding ring_distance
distance_ahead n q p h = cond-true (leb q p) _ _ (le-leb q p h)

pub distance_round : (n q p : ℕ) → p < q → ring_distance n q p ≡ n + p - q
unfolding ring_distance
distance_round n q p h = cond-false (leb q p) _ _ (lt-leb q p h)

pub on_cases : (n p d : ℕ) → ((p + d < n) × (ring_on n p d ≡ p + d)) ⊎ ((n ≤ p + d) × (ring_on n p d ≡ p + d - n))
on_cases n p d = elim (cases_lt (p + d) n) [ inl h ↦ inl (h, on_inside n p d h) | inr h ↦ inr (h, on_round n p d h) ]

pub back_cases : (n p d : ℕ) → ((d ≤ p) × (ring_back n p d ≡ p - d)) ⊎ ((p < d) × (ring_back n p d ≡ p + n - d))
back_cases n p d = elim (cases_lt p d) [ inl h ↦ inr (h, back_round n p d h) | inr h ↦ inl (h, back_inside n p d h) ]

pub distance_cases : (n q p : ℕ) → ((q ≤ p) × (ring_distance n q p ≡ p - q)) ⊎ ((p < q) × (ring_distance n q p ≡ n + p - q))
distance_cases n q p = elim (cases_lt p q) [ inl h ↦ inr (h, distance_round n q p h) | inr h ↦ inl (h, distance_ahead n q p h) ]

pub on_lt : (n p d : ℕ) → p < n → d ≤ n → ring_on n p d < n
on_lt n p d inside few = elim (on_cases n p d) [ inl c ↦ omega arith | inr c ↦ omega arith ]

pub back_lt : (n p d : ℕ) → p < n → d ≤ n → 0 < d → ring_back n p d < n
back_lt n p d inside few some = elim (back_cases n p d) [ inl c ↦ omega arith | inr c ↦ omega arith ]

pub on-zero : (n p : ℕ) → p < n → ring_on n p 0 ≡ p
on-zero n p inside = elim (on_cases n p 0) [ inl c ↦ omega arith | inr c ↦ omega arith ]

pub back-zero : (n p : ℕ) → ring_back n p 0 ≡ p
back-zero n p = elim (back_cases n p 0) [ inl c ↦ omega arith | inr c ↦ omega arith ]

-- one step further
pub on_more : (n p d : ℕ) → p < n → d < n → ring_on n (ring_on n p d) 1 ≡ ring_on n p (d + 1)
on_more n p d inside few =
    elim (on_cases n p d) [
      | inl a ↦ elim (on_cases n (ring_on n p d) 1) [
        | inl b ↦ elim (on_cases n p (d + 1)) [ inl c ↦ omega arith | inr c ↦ omega arith ]
        | inr b ↦ elim (on_cases n p (d + 1)) [ inl c ↦ omega arith | inr c ↦ omega arith ]
      ]
      | inr a ↦ elim (on_cases n (ring_on n p d) 1) [
        | inl b ↦ elim (on_cases n p (d + 1)) [ inl c ↦ omega arith | inr c ↦ omega arith ]
        | inr b ↦ elim (on_cases n p (d + 1)) [ inl c ↦ omega arith | inr c ↦ omega arith ]
      ]
    ]

pub back_more : (n p d : ℕ) → p < n → d < n → ring_back n (ring_back n p d) 1 ≡ ring_back n p (d + 1)
back_more n p d inside few =
    elim (back_cases n p d) [
      | inl a ↦ elim (back_cases n (ring_back n p d) 1) [
        | inl b ↦ elim (back_cases n p (d + 1)) [ inl c ↦ omega arith | inr c ↦ omega arith ]
        | inr b ↦ elim (back_cases n p (d + 1)) [ inl c ↦ omega arith | inr c ↦ omega arith ]
      ]
      | inr a ↦ elim (back_cases n (ring_back n p d) 1) [
        | inl b ↦ elim (back_cases n p (d + 1)) [ inl c ↦ omega arith | inr c ↦ omega arith ]
        | inr b ↦ elim (back_cases n p (d + 1)) [ inl c ↦ omega arith | inr c ↦ omega arith ]
      ]
    ]

-- the first hit of a search
pub least_at : (n k : ℕ) (test : ℕ → Bool) → k < n → ((d : ℕ) → d < k → test d ≡ false) → test k ≡ true → least n test ≡ Some k
unfolding least
least_at zero k test lt misses hit = absurd (omega arith)
least_at (suc n) zero test lt misses hit = cond-true (test 0) _ _ hit
least_at (suc n) (suc k) test lt misses hit =
    let first : test 0 ≡ false = misses 0 (omega arith) in
    cond-false (test 0) _ _ first ∙ ap (option_map suc) (least_at n k (λ d. test (suc d)) (omega arith) (λ d below. misses (suc d) (omega arith)) hit)

pub least_none : (n : ℕ) (test : ℕ → Bool) → ((d : ℕ) → d < n → test d ≡ false) → least n test ≡ None
unfolding least
least_none zero test misses = refl
least_none (suc n) test misses =
    let first : test 0 ≡ false = misses 0 (omega arith) in
    cond-false (test 0) _ _ first ∙ ap (option_map suc) (least_none n (λ d. test (suc d)) (λ d below. misses (suc d) (omega arith)))

-- what a search comes to
pub record IsFound (n : ℕ) (test : ℕ → Bool) (k : ℕ) : Type 0 where
  pub inside : k < n
  pub misses : (d : ℕ) → d < k → test d ≡ false
  pub hit : test k ≡ true

found_later : (n : ℕ) (test : ℕ → Bool) (k : ℕ) → test 0 ≡ false → IsFound n (λ d. test (suc d)) k → IsFound (suc n) test (suc k)
found_later n test k first found =
    record { inside = omega (arith, found.inside); misses = λ d below. later d below; hit = found.hit }
  where
    later : (d : ℕ) → d < suc k → test d ≡ false
    later zero below = first
    later (suc d) below = found.misses d (omega arith)

none_later : (n : ℕ) (test : ℕ → Bool) → test 0 ≡ false → ((d : ℕ) → d < n → test (suc d) ≡ false) → (d : ℕ) → d < suc n → test d ≡ false
none_later n test first others zero below = first
none_later n test first others (suc d) below = others d (omega arith)

pub search_cases : (n : ℕ) (test : ℕ → Bool) → ((k : ℕ) × IsFound n test k) ⊎ ((d : ℕ) → d < n → test d ≡ false)
search_cases zero test = inr (λ d below. absurd (omega arith))
search_cases (suc n) test =
    elim (cases_Bool (test 0)) [
      | inl hit ↦ inl (0, record { inside = omega arith; misses = λ d below. absurd (omega arith); hit = hit })
      | inr first ↦ elim (search_cases n (λ d. test (suc d))) [
        | inl found ↦ inl (suc found.0, found_later n test found.0 first found.1)
        | inr none ↦ inr (none_later n test first none)
      ]
    ]

pub least_found : (n : ℕ) (test : ℕ → Bool) (k : ℕ) → IsFound n test k → least n test ≡ Some k
least_found n test k found = least_at n k test found.inside found.misses found.hit
