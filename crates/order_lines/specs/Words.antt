-- Words of a line: names, bytes in hexadecimal, pairs, numbers.
use Rattle.std.specs.Prelude.{ℕ, ◌+◌, Bool, false, not, ◌&&◌, nat_lt, nat_eq, ◌==◌, List, [], ◌∷◌, length, take, drop, position, Option, Some, None, if◌then◌else◌}
use Rattle.std.specs.List.{starts_with, list_all}
use Rattle.std.specs.Option.{option_map}
use Rattle.std.specs.Char.{is_ascii_digit}
use Rattle.std.specs.Str.Parse.{digits_value}
use Rattle.hex.specs.Hex.{hex_digit_value}
use Rattle.ds_codec.specs.Digits.{byte_from}

-- what the rest of a line says where the line begins so, else what others say
abbrev pub on_word : {A : Type 0} → List ℕ → List ℕ → (List ℕ → Option A) → Option A → Option A
on_word word line found others = if starts_with nat_eq line word then found (drop (length word) line) else others

-- two hexadecimal digits, of either case
abbrev pub byte_told : List ℕ → Option ℕ
byte_told [] = None
byte_told (high ∷ []) = None
byte_told (high ∷ low ∷ []) = byte_from (hex_digit_value high) (hex_digit_value low)
byte_told (high ∷ low ∷ more ∷ rest) = None

abbrev pub pair_from : Option ℕ → Option ℕ → Option (ℕ × ℕ)
pair_from (Some kind) (Some value) = Some (kind, value)
pair_from kind value = None

-- a type and a value with = between them
abbrev pub pair_told : List ℕ → Option (ℕ × ℕ)
pair_told (a ∷ b ∷ sign ∷ c ∷ d ∷ []) =
    if sign == 0x3D then pair_from (byte_from (hex_digit_value a) (hex_digit_value b)) (byte_from (hex_digit_value c) (hex_digit_value d)) else None
pair_told word = None

abbrev pub pair_before : Option (ℕ × ℕ) → List ℕ → Option (ℕ × ℕ × List ℕ)
pair_before (Some pair) rest = Some (pair.0, pair.1, rest)
pair_before None rest = None

-- the pair at the front, with a space before it, and what follows
abbrev pub first_pair_of : List ℕ → Option (ℕ × ℕ × List ℕ)
first_pair_of (space ∷ a ∷ b ∷ sign ∷ c ∷ d ∷ rest) =
    if space == 0x20 then pair_before (pair_told (a ∷ b ∷ sign ∷ c ∷ d ∷ [])) rest else None
first_pair_of words = None

abbrev pub pairs_more : Option (ℕ × ℕ) → Option (List ℕ) → Option (List ℕ)
pairs_more (Some pair) (Some others) = Some (pair.0 ∷ pair.1 ∷ others)
pairs_more pair others = None

-- the types and values of pairs, each with a space before it
abbrev pub pairs_told : List ℕ → Option (List ℕ)
pairs_told [] = Some []
pairs_told (space ∷ a ∷ b ∷ sign ∷ c ∷ d ∷ rest) =
    if space == 0x20 then pairs_more (pair_told (a ∷ b ∷ sign ∷ c ∷ d ∷ [])) (pairs_told rest) else None
pairs_told words = None

-- decimal digits, of which the first is a zero only where it stands alone
abbrev pub is_numeral : List ℕ → Bool
is_numeral [] = false
is_numeral (digit ∷ []) = list_all is_ascii_digit (digit ∷ [])
is_numeral (digit ∷ next ∷ digits) = not (digit == 48) && list_all is_ascii_digit (digit ∷ next ∷ digits)

abbrev pub number_from : ℕ → Option ℕ
number_from n = if nat_lt n 4294967296 then Some n else None

-- a number of up to 4,294,967,295 in its one form
abbrev pub number_told : List ℕ → Option ℕ
number_told word = if is_numeral word then number_from (digits_value 10 word) else None

-- what stands before the first such byte, and after it
abbrev pub cut_at : ℕ → List ℕ → Option (List ℕ × List ℕ)
cut_at byte bytes = option_map (λ n. (take n bytes, drop (n + 1) bytes)) (position (λ b. b == byte) bytes)
