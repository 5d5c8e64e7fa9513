-- Decimal digits, and the number that they write.
use Rattle.std.proofs.Common.{◌≡◌, ◌≤◌, ◌<◌, ℕ, ◌+◌, ◌-◌, ◌*◌, true, false, ltb, List, [], ◌∷◌, length, get_or, None, refl, arith}
use Rattle.std.specs.List.{list_all}
use Rattle.std.specs.Char.{is_ascii_digit, digit_value}
use Rattle.std.specs.Str.Parse.{digits_value_after}
use Rattle.std.proofs.lemmas.Bool.{and_parts, le-ltb}
use Rattle.std.proofs.lemmas.Bool.Decides.{nat_tests}
use Rattle.order_lines.specs.Words.{number_from}

pub digit_value-digit : (c : ℕ) → is_ascii_digit c ≡ true → digit_value c ≡ c - 48
digit_value-digit c h = grind (arith, nat_tests)

-- digits that follow make no number smaller
pub digits_value-grows : (n : ℕ) (digits : List ℕ) → n ≤ digits_value_after 10 n digits
digits_value-grows n [] = omega arith
digits_value-grows n (c ∷ cs) = let later = digits_value-grows (n * 10 + digit_value c) cs in omega arith

-- a number that is too large after some of its digits is too large
pub too_large : (value n : ℕ) (rest : List ℕ) → digits_value_after 10 value rest ≡ n → 1 ≤ length rest → list_all is_ascii_digit rest ≡ true
    → 4294967295 < value * 10 + (get_or rest 0 0 - 48) → None ≡ number_from n
too_large value n [] told some digits large = absurd (omega arith)
too_large value n (c ∷ cs) told some digits large =
    let first : digit_value c ≡ c - 48 = digit_value-digit c (and_parts (is_ascii_digit c) (list_all is_ascii_digit cs) digits).0 in
    let grows : value * 10 + digit_value c ≤ digits_value_after 10 (value * 10 + digit_value c) cs = digits_value-grows (value * 10 + digit_value c) cs in
    let test : ltb n 4294967296 ≡ false = le-ltb _ _ (omega arith) in
    rw test refl
