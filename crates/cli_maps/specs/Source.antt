-- Where macros stand in a source.
use Rattle.std.specs.Prelude.{ℕ, suc, ◌+◌, ◌-◌, ◌^◌, min, ◌==◌, List, [], ◌∷◌, drop, slice_get, Option, Some, None, option_map, if◌then◌else◌}
use Rattle.bms_source.specs.declared.letter.Place.{Place}
use Rattle.cli_findings.specs.declared.region.Columns.{Columns}
use Rattle.cli_findings.specs.declared.region.Region.{Region}

-- how many characters stand before the first blank
abbrev pub word_length : List ℕ → ℕ
word_length [] = 0
word_length (code ∷ codes) = if code == 32 then 0 else suc (word_length codes)

-- how many blanks stand at the front
abbrev pub blank_length : List ℕ → ℕ
blank_length [] = 0
blank_length (code ∷ codes) = if code == 32 then suc (blank_length codes) else 0

-- how many characters stand before the operation: the label and the blanks after it
abbrev pub before_operation : List ℕ → ℕ
before_operation line = word_length line + blank_length (drop (word_length line) line)

-- the columns of the operation of a line, counted from 1, with the one after it
abbrev pub operation_columns : List ℕ → Columns
operation_columns line = record { start = before_operation line + 1; after = before_operation line + 1 + word_length (drop (before_operation line) line) }

-- the operation of the line of this number
abbrev pub macro_region : List (List ℕ) → ℕ → Region
macro_region lines number = record { line = number; columns = option_map operation_columns (slice_get lines (number - 1)) }

-- the column at which a source is refused; line 1 where none is told
abbrev pub refusal_region : Option Place → Region
refusal_region None = record { line = 1; columns = None }
refusal_region (Some place) = record { line = place.line; columns = Some (record { start = place.column; after = min (place.column + 1) (2 ^ 64 - 1) }) }
