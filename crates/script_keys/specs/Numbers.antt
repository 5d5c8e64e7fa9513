-- Numbers in arguments.
use Rattle.std.specs.Prelude.{ℕ, ◌+◌, ◌*◌, ◌-◌, ◌==◌, nat_le, nat_lt, Bool, ◌&&◌, List, [], ◌∷◌, if◌then◌else◌}
use Rattle.script_keys.specs.declared.number.Number.{Number}
use Rattle.script_keys.specs.declared.number.Number.TheVariants.{Negative, Natural}

abbrev pub is_digit : ℕ → Bool
is_digit byte = nat_le 0x30 byte && nat_le byte 0x39

-- One digit more. From 100,000 on, which no screen has, the value stays.
abbrev pub with_digit : ℕ → ℕ → ℕ
with_digit value digit = if nat_lt value 100000 then 10 * value + (digit - 0x30) else value

-- the value of the digits at the front, after those that make this value
unfoldable pub value_from : ℕ → List ℕ → ℕ
value_from value [] = value
value_from value (byte ∷ bytes) = if is_digit byte then value_from (with_digit value byte) bytes else value

abbrev pub value_of : List ℕ → ℕ
value_of bytes = value_from 0 bytes

abbrev pub negative : ℕ → Number
negative value = if value == 0 then Natural 0 else Negative

-- an optional sign and digits; what comes after them is ignored, and no digit is 0
abbrev pub number_of : List ℕ → Number
number_of [] = Natural 0
number_of (byte ∷ bytes) =
    if byte == 0x2D then negative (value_of bytes)
    else (if byte == 0x2B then Natural (value_of bytes) else Natural (value_of (byte ∷ bytes)))
