-- The digits of a line.
use Rattle.std.specs.Prelude.{◌≡◌, ℕ, Bool, ◌&&◌, ◌==◌, not, List, Option, count_by, position, take}
use Rattle.hex.specs.Hex.{is_hex_digit}

-- neither a digit nor a space
abbrev pub is_other : ℕ → Bool
is_other byte = not (byte == 0x20) && not (is_hex_digit byte)

abbrev pub first_other : List ℕ → Option ℕ
first_other line = position is_other line

abbrev pub first_no_digit : List ℕ → Option ℕ
first_no_digit digits = position (λ byte. not (is_hex_digit byte)) digits

abbrev pub digit_count : List ℕ → ℕ
digit_count line = count_by is_hex_digit line

-- so many bytes at the front are digits
abbrev pub BeginsWithDigits : ℕ → List ℕ → Type 0
BeginsWithDigits count line = digit_count (take count line) ≡ count
