-- Operands, one after the other.
use Rattle.std.specs.Prelude.{ℕ, ◌+◌, Bool, ◌&&◌, ◌==◌, nat_le, List, [], ◌∷◌, length, take, drop, Option, Some, None, Result, Ok, Err, if◌then◌else◌}
use Rattle.bms_source.specs.declared.letter.Letter.{Letter}
use Rattle.bms_source.specs.declared.refusal.Why.TheVariants.{BadOperand}
use Rattle.bms_source.specs.Told.{Told, told_at}
use Rattle.bms_source.specs.Words.{is_symbol}
use Rattle.bms_source.specs.Scan.{comma_in, are_paired}

-- how many letters stand before the first equals sign
abbrev pub sign_in : List Letter → ℕ
sign_in [] = 0
sign_in (letter ∷ letters) = if letter.code == 61 then 0 else 1 + sign_in letters

abbrev pub is_good : List Letter → List Letter → Bool
is_good keyword value = is_symbol keyword && (nat_le (length keyword) 63 && are_paired value)

abbrev pub pair_of : List Letter → List Letter → Option (List Letter × List Letter)
pair_of keyword [] = None
pair_of keyword (sign ∷ []) = None
pair_of keyword (sign ∷ first ∷ rest) = if is_good keyword (first ∷ rest) then Some (keyword, first ∷ rest) else None

-- the keyword and the value, if the letters are both
unfoldable pub operand_in : List Letter → Option (List Letter × List Letter)
operand_in letters = pair_of (take (sign_in letters) letters) (drop (sign_in letters) letters)

abbrev pub after_comma : List Letter → List Letter
after_comma [] = []
after_comma (comma ∷ others) = others

abbrev pub with_rest : Letter → List Letter → Option (List Letter × List Letter) → Result (List Letter × List Letter × List Letter) Told
with_rest first rest None = Err (told_at BadOperand first.place)
with_rest first rest (Some operand) = Ok (operand.0, operand.1, rest)

-- the operand at the front of operands, by its keyword and its value, and those after it
unfoldable pub next_operand : Letter → List Letter → Result (List Letter × List Letter × List Letter) Told
next_operand first letters = with_rest first (after_comma (drop (comma_in letters) letters)) (operand_in (take (comma_in letters) letters))
