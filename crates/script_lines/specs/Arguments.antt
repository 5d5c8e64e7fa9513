-- The arguments of an action, between parentheses or as words.
use Rattle.std.specs.Prelude.{ℕ, zero, suc, ◌==◌, Bool, List, [], ◌∷◌, length, take, drop, Option, Some, None, if◌then◌else◌}
use Rattle.std.specs.List.{prefix_len}
use Rattle.script_lines.specs.declared.fault.SyntaxWhy.{SyntaxWhy}
use Rattle.script_lines.specs.declared.fault.SyntaxWhy.TheVariants.{Close, CloseOrComma, Unclosed}
use Rattle.script_lines.specs.Bytes.{after_blanks, is_of_argument, is_of_word}
use Rattle.script_lines.specs.Quoted.{unquoted}

-- arguments and what comes after them, or what is wrong and the bytes from there on
pub data Arguments : Type 0 where
  given : (arguments : List (List ℕ)) → (rest : List ℕ) → Arguments
  stopped : (why : SyntaxWhy) → (left : List ℕ) → Arguments

abbrev pub with_argument : List ℕ → Arguments → Arguments
with_argument argument (given arguments rest) = given (argument ∷ arguments) rest
with_argument argument (stopped why left) = stopped why left

-- as many bytes as go on
abbrev pub plain_at : (ℕ → Bool) → List ℕ → List ℕ × List ℕ
plain_at goes bytes = (take (prefix_len goes bytes) bytes, drop (prefix_len goes bytes) bytes)

-- an argument: a text between quotes, or as many bytes as go on
abbrev pub argument_at : (ℕ → Bool) → List ℕ → Option (List ℕ × List ℕ)
argument_at goes [] = Some ([], [])
argument_at goes (byte ∷ bytes) = if byte == 0x22 then unquoted bytes else Some (plain_at goes (byte ∷ bytes))

-- what comes after an argument between parentheses
pub data Next : Type 0 where
  at_end : Next
  comma : (rest : List ℕ) → Next
  closed : (rest : List ℕ) → Next
  other : (left : List ℕ) → Next

abbrev pub next_at : List ℕ → Next
next_at [] = at_end
next_at (byte ∷ bytes) = if byte == 0x2C then comma bytes else (if byte == 0x29 then closed bytes else other (byte ∷ bytes))

abbrev pub then_next : List ℕ → Next → (List ℕ → Arguments) → Arguments
then_next argument at_end others = stopped Close []
then_next argument (comma rest) others = with_argument argument (others (after_blanks rest))
then_next argument (closed rest) others = given (argument ∷ []) rest
then_next argument (other left) others = stopped CloseOrComma left

abbrev pub then_within : Option (List ℕ × List ℕ) → (List ℕ → Arguments) → Arguments
then_within None others = stopped Unclosed []
then_within (Some found) others = then_next found.0 (next_at (after_blanks found.1)) others

-- so many at most
unfoldable pub arguments_within : ℕ → List ℕ → Arguments
arguments_within zero bytes = stopped Close bytes
arguments_within (suc most) bytes = then_within (argument_at is_of_argument bytes) (arguments_within most)

-- `)` alone is none
abbrev pub between_parentheses : List ℕ → Arguments
between_parentheses [] = stopped Close []
between_parentheses (byte ∷ bytes) = if byte == 0x29 then given [] bytes else arguments_within (length (byte ∷ bytes)) (byte ∷ bytes)

abbrev pub then_words : Option (List ℕ × List ℕ) → (List ℕ → Arguments) → Arguments
then_words None others = stopped Unclosed []
then_words (Some found) others = with_argument found.0 (others (after_blanks found.1))

-- words up to the end, so many at most
unfoldable pub words_within : ℕ → List ℕ → Arguments
words_within most [] = given [] []
words_within zero (byte ∷ bytes) = stopped Close (byte ∷ bytes)
words_within (suc most) (byte ∷ bytes) = then_words (argument_at is_of_word (byte ∷ bytes)) (words_within most)

abbrev pub words_to_the_end : List ℕ → Arguments
words_to_the_end bytes = words_within (length bytes) bytes
