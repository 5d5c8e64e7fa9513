-- The rows of a screen alone, as an operator sees them.
use Rattle.std.specs.Prelude.{ℕ, ◌+◌, ◌*◌, List, [], ◌∷◌, ◌++◌, codes}
use Rattle.std.specs.List.{flat_map, range_with_len}
use Rattle.ds_screen.specs.Picture.{Picture}
use Rattle.cli_pictures.specs.Seen.{shown_at}

-- the character that is seen in a row and a column, both counted from 0: a space of an attribute, a null or a hidden character
abbrev pub seen_column : Picture → ℕ → ℕ → List ℕ
seen_column v row column = shown_at v.cells (row * v.size.cols + column) ∷ []

-- a row, with as many characters as there are columns, on a line
abbrev pub seen_row : Picture → ℕ → List ℕ
seen_row v row = flat_map (seen_column v row) (range_with_len 0 v.size.cols) ++ codes "\n"

abbrev pub screen_text : Picture → List ℕ
screen_text v = flat_map (seen_row v) (range_with_len 0 v.size.rows)
