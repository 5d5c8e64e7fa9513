-- Numbers of arguments.
use Rattle.std.specs.Prelude.{ℕ, ◌+◌, ◌-◌, ◌*◌, ◌==◌, ◌||◌, ◌&&◌, nat_le, Bool, List, [], ◌∷◌, drop, Option, Some, None, if◌then◌else◌}
use Rattle.std.specs.List.{prefix_len}

-- space, tab, line feed, vertical tab, form feed, carriage return
abbrev pub is_blank : ℕ → Bool
is_blank byte = (byte == 0x20) || (nat_le 0x09 byte && nat_le byte 0x0D)

abbrev pub is_digit : ℕ → Bool
is_digit byte = nat_le 0x30 byte && nat_le byte 0x39

-- a number above this one is this one
abbrev pub capped : ℕ → ℕ
capped value = if nat_le value 0xFFFFFFFF then value else 0xFFFFFFFF

-- the value of digits after others, up to the first byte that is none
abbrev pub value_from : ℕ → List ℕ → ℕ
value_from so_far [] = so_far
value_from so_far (byte ∷ bytes) = if is_digit byte then value_from (capped (so_far * 10 + (byte - 0x30))) bytes else so_far

-- a number below 0 is none
abbrev pub negated : ℕ → Option ℕ
negated value = if value == 0 then Some 0 else None

abbrev pub signed : List ℕ → Option ℕ
signed [] = Some 0
signed (byte ∷ bytes) =
    if byte == 0x2D then negated (value_from 0 bytes)
    else (if byte == 0x2B then Some (value_from 0 bytes) else Some (value_from 0 (byte ∷ bytes)))

-- blanks, a sign or none, and digits; what comes after them is ignored, and no digit is 0
abbrev pub number_of : List ℕ → Option ℕ
number_of text = signed (drop (prefix_len is_blank text) text)
