-- The place after some bytes of a text.
use Rattle.std.specs.Prelude.{ℕ, ◌==◌, List, [], ◌∷◌, if◌then◌else◌}
use Rattle.cli_reasons.specs.declared.toml_place.LineColumn.{LineColumn}
use Rattle.cli_reasons.specs.Counts.{next_number}
use Rattle.cli_reasons.specs.Text.{begins_character}

abbrev pub line_column : ℕ → ℕ → LineColumn
line_column line column = record { line = line; column = column }

-- an LF begins a line, and a character is a column
abbrev pub place_after : ℕ → ℕ → List ℕ → LineColumn
place_after line column [] = line_column line column
place_after line column (byte ∷ rest) =
    if byte == 0x0A then place_after (next_number line) 1 rest
    else if begins_character byte then place_after line (next_number column) rest
    else place_after line column rest
