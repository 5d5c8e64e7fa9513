-- The text of a dialogue as one of the records up to a turn: what is no record of them is a comment, so that lines keep their
-- numbers.
use Rattle.std.specs.Prelude.{ℕ, ◌+◌, ◌-◌, min, ◌==◌, ◌||◌, List, [], ◌∷◌, ◌++◌, codes, if◌then◌else◌}
use Rattle.cli_commands.specs.Lines.{lines_in}
use Rattle.cli_commands.specs.TurnLines.{is_turn, left_after}

-- a line of the turns that are kept, of which so many are to come with the one at hand
abbrev pub line_shown : ℕ → List ℕ → List ℕ
line_shown left line = if is_turn line || left == 0 then codes "#" else line

abbrev pub shown_from : ℕ → List (List ℕ) → List ℕ
shown_from left [] = []
shown_from left (line ∷ lines) = (line_shown left line ++ codes "\n") ++ shown_from (left_after left line) lines

-- the text with the records of so many turns, the first ones
abbrev pub records_up_to : ℕ → List ℕ → List ℕ
records_up_to turns text = shown_from turns (lines_in text)

-- what is left of a number after the lines `turn` of a text
abbrev pub left_from : ℕ → List (List ℕ) → ℕ
left_from left [] = left
left_from left (line ∷ lines) = left_from (left_after left line) lines

-- how many lines `turn` a text has, or this number where there are more
abbrev pub count_of : ℕ → List ℕ → ℕ
count_of most text = most - left_from most (lines_in text)

-- ---- one turn

-- a line of this turn, where the line at hand is in that one
abbrev pub own_line : ℕ → ℕ → List ℕ → List ℕ
own_line turn at line = if is_turn line then codes "#" else (if at == turn then line else codes "#")

-- turns are counted up to 2^64 - 1
abbrev pub at_after : ℕ → List ℕ → ℕ
at_after at line = if is_turn line then min (at + 1) 18446744073709551615 else at

abbrev pub own_from : ℕ → ℕ → List (List ℕ) → List ℕ
own_from turn at [] = []
own_from turn at (line ∷ lines) = (own_line turn at line ++ codes "\n") ++ own_from turn (at_after at line) lines

-- the text with the records of a turn alone
abbrev pub records_of : ℕ → List ℕ → List ℕ
records_of turn text = own_from turn 0 (lines_in text)
