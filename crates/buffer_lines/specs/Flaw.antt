-- Why a line is refused.
use Rattle.std.specs.Prelude.{ℕ, ◌+◌, min, Bool, true, false, nat_lt, is_some, List, [], ◌∷◌, length, Option, Some, None, option_map, if◌then◌else◌}
use Rattle.ds_codec.specs.Geometry.{Sizes}
use Rattle.buffer_lines.specs.declared.cell.Word.{Word}
use Rattle.buffer_lines.specs.declared.cell.Word.TheVariants as words
use Rattle.buffer_lines.specs.declared.flaw.Flaw.{Flaw}
use Rattle.buffer_lines.specs.declared.flaw.Flaw.TheVariants.{NoCell, OtherCells, TooManyRows, OtherSize, NoTerminal, CursorOutside}
use Rattle.buffer_lines.specs.declared.status.Status.{Status}
use Rattle.buffer_lines.specs.Cell.{word_told}
use Rattle.buffer_lines.specs.Line.{Line, silent, row, status, refused, data_of, line_told}
use Rattle.buffer_lines.specs.Screen.{Opened, Course, goes, ends, stops, fits, geometry_told, has_rows, is_blank, position_of}
use Rattle.buffer_lines.specs.Words.{words_of}

-- ---- a word

abbrev pub is_refused : Word → Bool
is_refused (words.Cell cell) = false
is_refused words.Extended = false
is_refused words.Refused = true

-- the column after a word and the space behind it, up to 2^64 - 1
abbrev pub next_column : ℕ → List ℕ → ℕ
next_column column word = min (min (column + length word) 18446744073709551615 + 1) 18446744073709551615

-- that of the first word that is no cell and no attribute
abbrev pub column_from : ℕ → List (List ℕ) → Option ℕ
column_from column [] = None
column_from column (word ∷ rest) = if is_refused (word_told word) then Some column else column_from (next_column column word) rest

-- counted from 1; `data: ` has six
abbrev pub line_column : Option (List ℕ) → List ℕ → Option ℕ
line_column (Some data') line = column_from 7 (words_of data')
line_column None line = column_from 1 (words_of line)

-- ---- a row, and a status line

abbrev pub row_flaw : Opened → ℕ → Option Flaw
row_flaw opened count =
    if fits opened.rows opened.cols count then None
    else if nat_lt opened.rows 255 then Some (OtherCells count opened.cols) else Some TooManyRows

abbrev pub size_flaw : Option Sizes → Status → Option Flaw
size_flaw None told = Some NoTerminal
size_flaw (Some sizes) told = if is_some (position_of sizes.alternate told.row told.col) then None else Some CursorOutside

abbrev pub status_flaw : Opened → Status → Option Flaw
status_flaw opened told =
    if is_blank opened then None
    else if has_rows opened.rows opened.cols told then size_flaw (geometry_told told) told else Some (OtherSize opened.rows opened.cols)

-- ---- a line

abbrev pub flaw_by : Opened → List ℕ → Line → Option Flaw
flaw_by opened line silent = None
flaw_by opened line (row cells) = row_flaw opened (length cells)
flaw_by opened line (status told) = status_flaw opened told
flaw_by opened line refused = option_map NoCell (line_column (data_of line) line)

abbrev pub flaw_of : Opened → List ℕ → Option Flaw
flaw_of opened line = flaw_by opened line (line_told line)

-- the line is refused
abbrev pub is_stop : Course → Bool
is_stop (goes opened) = false
is_stop (ends taken opened) = false
is_stop stops = true
