-- Comments, and the first line of a text.
use Rattle.std.specs.Prelude.{ℕ, ◌+◌, nat_eq, List, [], ◌++◌, codes, drop, position, Option, Some, None}
use Rattle.std.specs.List.{flat_map}
use Rattle.tap_screens.specs.Lines.{front_at}

-- a line of a text, after what each begins with
abbrev pub line_after : List ℕ → List ℕ → List ℕ
line_after front text = front ++ (text ++ codes "\n")

abbrev pub lines_after : List ℕ → List (List ℕ) → List ℕ
lines_after front texts = flat_map (line_after front) texts

abbrev pub line_end : List ℕ → Option ℕ
line_end text = position (λ b. nat_eq b 0x0A) text

abbrev pub first_line : List ℕ → List ℕ
first_line text = front_at text (line_end text)

abbrev pub rest_at : List ℕ → Option ℕ → List ℕ
rest_at text None = []
rest_at text (Some end) = drop (end + 1) text

-- what comes after the first line
abbrev pub other_lines : List ℕ → List ℕ
other_lines text = rest_at text (line_end text)
