-- Words as they are read.
use Rattle.std.specs.Prelude.{ℕ, ◌≡◌, Bool, false, not, ◌==◌, List, [], ◌∷◌, Option, Result, All, IsOk}
use Rattle.std.specs.Iterator.{Drains}
use Rattle.std.specs.List.{before_first, after_first}
use Rattle.std.specs.Str.Parse.{IsNumeral, without_leading_plus, digits_value}

-- neither empty nor a comment
abbrev pub is_row : List ℕ → Bool
is_row [] = false
is_row (b ∷ bs) = not (b == 0x23)

-- of the answer to the row above it
abbrev pub is_answer : List ℕ → Bool
is_answer [] = false
is_answer (b ∷ bs) = b == 0x3D

abbrev pub is_space : ℕ → Bool
is_space c = c == 0x20

-- the first word, and what follows it
abbrev pub AreParts : List ℕ → List ℕ → List ℕ → Type 0
AreParts words first rest = (first ≡ before_first is_space words) × (rest ≡ after_first is_space words)

-- the digits of a number to this base
abbrev pub IsWritten : ℕ → List ℕ → ℕ → Type 0
IsWritten base text n = IsNumeral base (without_leading_plus text) × (n ≡ digits_value base (without_leading_plus text))

-- two numbers to this base, each a word
abbrev pub AreWritten : ℕ → List ℕ → ℕ → ℕ → Type 0
AreWritten base words first second = IsWritten base (before_first is_space words) first × IsWritten base (after_first is_space words) second

-- every item is there, and each could be read
abbrev pub AreRead : {S A E : Type 0} → (S → Option (Result A E) → S → Type 0) → S → Type 0
AreRead {A = A} {E = E} steps s = (all : List (Result A E)) × Drains steps s all × All IsOk all
