-- Lines of an answer and of a report, each of one text.
use Rattle.std.specs.Prelude.{ℕ, List, ◌++◌, codes, map, nat_lt, if◌then◌else◌}
use Rattle.std.specs.List.{flat_map}

-- a line of a text, after what each line begins with
abbrev pub line_after : List ℕ → List ℕ → List ℕ
line_after front text = front ++ (text ++ codes "\n")

abbrev pub lines_after : List ℕ → List (List ℕ) → List ℕ
lines_after front texts = flat_map (line_after front) texts

-- `?` in place of a control, so that no name ends a line
abbrev pub clean_byte : ℕ → ℕ
clean_byte byte = if nat_lt byte 0x20 then 0x3F else byte

abbrev pub clean : List ℕ → List ℕ
clean name = map clean_byte name
