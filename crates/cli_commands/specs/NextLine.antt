-- The next line of a reader, as it is read.
use Rattle.std.specs.Prelude.{◌≡◌, ◌≢◌, ◌⊎◌, ◌<◌, ◌≤◌, ◌+◌, ◌-◌, ℕ, Bool, true, false, List, [], ◌∷◌, ◌++◌, All, length, slice_index, Option, Some, OnSome}
use Rattle.std.specs.Io.{StopsAt, IsEmptyOrEndsWith}
use Rattle.std.specs.Io.KnownBytes.{IsAtEnd}
use Rattle.bstr.specs.Text.{without_terminator}
use Rattle.cli_commands.specs.Lines.{lines_in}

-- the first line was read whole; or it has more than 16,777,216 bytes, and so has what was read of it
abbrev pub ReadsFirst : List ℕ → List ℕ → List ℕ → Option (List ℕ) → Type 0
ReadsFirst first rest line left =
    ((left ≡ Some rest) × (without_terminator line ≡ first))
    ⊎ ((16777216 < length first) × (16777216 < length (without_terminator line)))

-- A line was read with its end from the front of these bytes, and they are as many as it and those behind it, unless it is too
-- long; or there is none.
abbrev pub ReadsLine : List ℕ → Bool → List ℕ → Option (List ℕ) → Type 0
ReadsLine bytes true line left =
    (first : List ℕ) × (rest : List ℕ) × (lines_in bytes ≡ first ∷ lines_in rest) × ReadsFirst first rest line left
    × (0 < length line) × (length line ≤ length bytes) × (length line < 16777219 → length line + length rest ≡ length bytes)
ReadsLine bytes false line left = (lines_in bytes ≡ []) × (bytes ≡ [])

-- bytes were read from the front of these, and no line goes on behind them, unless they are too many
abbrev pub ReadsFront : List ℕ → List ℕ → Option (List ℕ) → Type 0
ReadsFront bytes front left =
    (rest : List ℕ) × (left ≡ Some rest) × (bytes ≡ front ++ rest)
    × ((lines_in bytes ≡ lines_in front ++ lines_in rest) ⊎ (16777216 < length front))

-- the same of some bytes, or there are none
abbrev pub ReadsSome : List ℕ → Bool → List ℕ → Option (List ℕ) → Type 0
ReadsSome bytes true front left = (0 < length front) × ReadsFront bytes front left
ReadsSome bytes false front left = bytes ≡ []

-- what was read ends with an LF, or nothing is left, or it is too long
abbrev pub EndsOrLong : List ℕ → Option (List ℕ) → Type 0
EndsOrLong line left = (slice_index line (length line - 1) ≡ 10) ⊎ ((left ≡ Some []) ⊎ (16777216 < length line))

-- ---- for the code's own proofs: a part of a line that a reader showed

-- the line ends with the part, by an LF or where nothing is left; or no LF is in it
abbrev pub EndsPart : Bool → List ℕ → Option (List ℕ) → Option (List ℕ) → Type 0
EndsPart true part old new = StopsAt part 10 × IsEmptyOrEndsWith part 10 × (length part ≡ 0 → OnSome old (IsAtEnd new))
EndsPart false part old new = All (λ b. b ≢ 10) part
