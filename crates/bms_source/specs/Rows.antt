-- The lines of a statement.
use Rattle.std.specs.Prelude.{ℕ, ◌+◌, Bool, true, false, List, [], ◌∷◌, map, Result, Ok, Err, if◌then◌else◌}
use Rattle.bstr.specs.Text.{lines_of, without_terminator}
use Rattle.bms_source.specs.declared.columns.Part.{Part}
use Rattle.bms_source.specs.declared.columns.Part.TheVariants.{Later}
use Rattle.bms_source.specs.declared.letter.Letter.{Letter}
use Rattle.bms_source.specs.Told.{Told, place_at, ◌>>=◌}
use Rattle.bms_source.specs.Columns.{text_of, is_marked, good_columns}

-- the lines of a text, each without the LF or CR LF at its end
abbrev pub lines_in : List ℕ → List (List ℕ)
lines_in text = map without_terminator (lines_of text)

-- columns 1 to 71 of a line
pub record Line : Type 0 where
  pub number : ℕ
  pub letters : List Letter

-- the characters of a line from a column on, each with its place
abbrev pub letters_from : ℕ → ℕ → List ℕ → List Letter
letters_from line column [] = []
letters_from line column (c ∷ cs) = record { code = c; place = place_at line column } ∷ letters_from line (column + 1) cs

abbrev pub line_of : ℕ → List ℕ → Line
line_of number columns = record { number = number; letters = letters_from number 1 (text_of columns) }

-- the row of a line, and whether the statement goes on
unfoldable pub row_of : ℕ → Part → Bool → List ℕ → Result (Line × Bool) Told
row_of number part is_last line = good_columns number part is_last line >>= λ columns. Ok (line_of number columns, is_marked columns)

abbrev pub is_empty : List (List ℕ) → Bool
is_empty [] = true
is_empty (line ∷ lines) = false

abbrev pub before : Line → Result (List Line) Told → Result (List Line) Told
before row (Ok rows) = Ok (row ∷ rows)
before row (Err e) = Err e

abbrev pub with_more : Line × Bool → Result (List Line) Told → Result (List Line) Told
with_more found more = if found.1 then before found.0 more else Ok (found.0 ∷ [])

-- the rows of the statement at the front of lines, of which the first has this number
abbrev pub rows_from : Part → ℕ → List (List ℕ) → Result (List Line) Told
rows_from part number [] = Ok []
rows_from part number (line ∷ lines) =
    row_of number part (is_empty lines) line >>= λ found. with_more found (rows_from Later (number + 1) lines)
