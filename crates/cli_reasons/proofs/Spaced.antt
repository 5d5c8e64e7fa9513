-- A line of digits alone has no other byte.
use Rattle.std.proofs.Common.{◌≡◌, ◌==◌, ◌&&◌, ◌+◌, ℕ, ◌≤◌, Bool, true, false, List, [], ◌∷◌, length, not, cond, arith, refl}
use Rattle.std.proofs.lemmas.List.Sums.{count_by-le-length, sum_by-cons}
use Rattle.std.specs.Prelude.{None}
use Rattle.std.specs.List.{position_or_len}
use Rattle.hex.specs.Hex.{is_hex_digit}
use Rattle.cli_reasons.specs.Digits.{is_other, first_other, digit_count}

neither : (space digit : Bool) → digit ≡ true → (not space && not digit) ≡ false
neither true digit is = refl
neither false digit is = rw is refl

digit_is_no_other : (byte : ℕ) → is_hex_digit byte ≡ true → is_other byte ≡ false
digit_is_no_other byte is = neither (byte == 0x20) (is_hex_digit byte) is

-- of more than one byte the first is a digit and the others are
pub first_too : (here : Bool) (rest most : ℕ) → cond here 1 0 + rest ≡ most + 1 → rest ≤ most → (here ≡ true) × (rest ≡ most)
first_too true rest most all below = (refl, omega (arith, all))
first_too false rest most all below = absurd (omega (arith, all, below))

past_all : (line : List ℕ) → digit_count line ≡ length line → position_or_len is_other line ≡ length line
past_all [] all = refl
past_all (x ∷ xs) all =
    let parts = first_too (is_hex_digit x) (digit_count xs) (length xs) (omega (arith, all, sum_by-cons (λ y. cond (is_hex_digit y) 1 0) x xs)) (count_by-le-length is_hex_digit xs) in
    rw (digit_is_no_other x parts.0) (omega (arith, past_all xs parts.1))

pub none_other : (line : List ℕ) → digit_count line ≡ length line → first_other line ≡ None
none_other line all = rw (past_all line all) (grind arith)
