-- Words of a line, with a space between two, and numbers.
use Rattle.std.specs.Prelude.{ℕ, ◌+◌, ◌-◌, ◌*◌, ◌==◌, ◌&&◌, nat_le, nat_lt, List, [], ◌∷◌, ◌++◌, Option, Some, None, if◌then◌else◌}

-- the words from here on, of the first of which so much is read
abbrev pub words_from : List ℕ → List ℕ → List (List ℕ)
words_from word [] = word ∷ []
words_from word (byte ∷ rest) = if byte == 0x20 then word ∷ words_from [] rest else words_from (word ++ byte ∷ []) rest

abbrev pub words_of : List ℕ → List (List ℕ)
words_of line = words_from [] line

abbrev pub digit_value : ℕ → Option ℕ
digit_value byte = if nat_le 0x30 byte && nat_le byte 0x39 then Some (byte - 0x30) else None

-- one more digit of a number below 100
abbrev pub number_from : ℕ → Option ℕ → Option ℕ
number_from number None = None
number_from number (Some digit) = if nat_lt number 100 then Some (10 * number + digit) else None

abbrev pub number_after : Option ℕ → ℕ → Option ℕ
number_after None byte = None
number_after (Some number) byte = number_from number (digit_value byte)

-- one to three decimal digits
abbrev pub number_told : List ℕ → Option ℕ
number_told [] = None
number_told (a ∷ []) = number_from 0 (digit_value a)
number_told (a ∷ b ∷ []) = number_after (number_from 0 (digit_value a)) b
number_told (a ∷ b ∷ c ∷ []) = number_after (number_after (number_from 0 (digit_value a)) b) c
number_told (a ∷ b ∷ c ∷ d ∷ more) = None
