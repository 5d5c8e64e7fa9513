-- The status line that ends a screen.
use Rattle.std.specs.Prelude.{ℕ, ◌==◌, List, length, slice_get, Option, Some, None, if◌then◌else◌}
use Rattle.buffer_lines.specs.declared.status.Status.{Status}
use Rattle.buffer_lines.specs.Words.{number_told}

abbrev pub number_of : Option (List ℕ) → Option ℕ
number_of None = None
number_of (Some word) = number_told word

-- the number that is the word of an index, counted from 0
abbrev pub number_at : List (List ℕ) → ℕ → Option ℕ
number_at words index = number_of (slice_get words index)

abbrev pub status_from : Option ℕ → Option ℕ → Option ℕ → Option ℕ → Option Status
status_from (Some rows) (Some cols) (Some row) (Some col) = Some (record { rows = rows; cols = cols; row = row; col = col })
status_from rows cols row col = None

abbrev pub status_at : List (List ℕ) → Option Status
status_at words = status_from (number_at words 6) (number_at words 7) (number_at words 8) (number_at words 9)

-- twelve words, of which the seventh to the tenth are the rows, the columns, and the cursor's row and column
abbrev pub status_told : List (List ℕ) → Option Status
status_told words = if length words == 12 then status_at words else None
