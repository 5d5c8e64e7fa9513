-- Bytes as text.
use Rattle.std.specs.Prelude.{◌≡◌, ◌<◌, ℕ, ◌+◌, ◌*◌, List, length, slice_index, Option, Some, None, Result, Ok, Err}
use Rattle.hex.specs.Hex.{hex_digit_value}
use Rattle.hex.specs.declared.error.FromHexError.{FromHexError}

-- the byte of the values of two hexadecimal digits, where both are digits
abbrev pub byte_from : Option ℕ → Option ℕ → Option ℕ
byte_from (Some high) (Some low) = Some (16 * high + low)
byte_from high low = None

-- the bytes that a text spells, where it does
abbrev pub bytes_from : Result (List ℕ) FromHexError → Option (List ℕ)
bytes_from (Ok bytes) = Some bytes
bytes_from (Err e) = None

-- the first n values are those of the digits
abbrev pub AreValues : List ℕ → List ℕ → ℕ → Type 0
AreValues digits values n = (k : ℕ) → k < n → hex_digit_value (slice_index digits k) ≡ Some (slice_index values k)

-- the first n bytes are each of two values, the high one first
abbrev pub AreJoined : List ℕ → List ℕ → ℕ → Type 0
AreJoined values bytes n =
    (k : ℕ) → k < n → slice_index bytes k ≡ 16 * slice_index values (2 * k) + slice_index values (2 * k + 1)

-- the first n bytes are each of two digits
abbrev pub AreSpelled : List ℕ → List ℕ → ℕ → Type 0
AreSpelled digits bytes n =
    (k : ℕ) → k < n
    → byte_from (hex_digit_value (slice_index digits (2 * k))) (hex_digit_value (slice_index digits (2 * k + 1)))
    ≡ Some (slice_index bytes k)

-- one of them is no digit
abbrev pub HasOther : List ℕ → Type 0
HasOther digits = (k : ℕ) × (k < length digits) × (hex_digit_value (slice_index digits k) ≡ None)
