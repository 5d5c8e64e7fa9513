-- A digit's value, in two ways without a branch.
use Rattle.std.proofs.Common.{◌≡◌, ℕ, zero, suc, ◌+◌, ◌-◌, ◌%◌, ◌<◌, ◌≤◌, ◌&&◌, min, eqb, nat_le, nat_lt, Bool, true, bit_or, arith, refl, ap, inl, inr}
use Rattle.std.proofs.lemmas.Bool.{and_parts, cases_lt, eqb-true, leb-true, ltb-true}
use Rattle.std.specs.Prelude.{Option, Some, None}
use Rattle.hex.specs.Hex.{hex_digit_value}

-- what the two ways give
abbrev pub by_number : ℕ → ℕ
by_number digit = ((digit + 198) % 256 - 6 + 16) % 256

abbrev pub by_letter : ℕ → ℕ
by_letter digit = min ((bit_or digit 32 + 159) % 256 + 10) 255

-- the value where there is one, and more than 15 where there is none
abbrev pub IsValue : Option ℕ → ℕ → Type 0
IsValue due value = (value < 16 → due ≡ Some value) × (16 ≤ value → due ≡ None)

-- the same as a test, which computes
is_value : Option ℕ → ℕ → Bool
is_value (Some due) value = eqb due value && nat_lt value 16
is_value None value = nat_le 16 value

is_value-true : (due : Option ℕ) (value : ℕ) → is_value due value ≡ true → IsValue due value
unfolding is_value
is_value-true (Some due) value passes =
    let parts = and_parts (eqb due value) (nat_lt value 16) passes in
    (λ small. ap (λ n. Some n) (eqb-true due value parts.0), λ large. absurd (omega (arith, large, ltb-true value 16 parts.1)))
is_value-true None value passes = (λ small. absurd (omega (arith, small, leb-true 16 value passes)), λ large. refl)

-- the test of each byte below n
are_values : ℕ → Bool
unfolding is_value
are_values zero = true
are_values (suc n) = is_value (hex_digit_value n) (min (by_number n) (by_letter n)) && are_values n

values_at : (n digit : ℕ) → are_values n ≡ true → digit < n → is_value (hex_digit_value digit) (min (by_number digit) (by_letter digit)) ≡ true
unfolding are_values
values_at zero digit passes below = absurd (omega arith)
values_at (suc n) digit passes below =
    let parts = and_parts (is_value (hex_digit_value n) (min (by_number n) (by_letter n))) (are_values n) passes in
    elim (cases_lt digit n) [
      | inl before ↦ values_at n digit parts.1 before
      | inr top ↦
          let same : digit ≡ n = omega arith in
          rw same parts.0
    ]

pub value_is : (digit : ℕ) → digit < 256 → IsValue (hex_digit_value digit) (min (by_number digit) (by_letter digit))
unfolding are_values is_value
value_is digit below = is_value-true _ _ (values_at 256 digit refl below)
