-- A line has a flaw where it is refused, and nowhere else.
use Rattle.std.proofs.Common.{◌≡◌, ◌∙◌, ℕ, Bool, true, false, nat_lt, cond, is_some, is_none, List, [], ◌∷◌, ◌++◌, length, Option, Some, None, option_map, refl, sym}
use Rattle.ds_codec.specs.declared.cell.Cell.{Cell}
use Rattle.ds_codec.specs.Geometry.{Sizes}
use Rattle.buffer_lines.specs.declared.cell.Word.{Word}
use Rattle.buffer_lines.specs.declared.cell.Word.TheVariants as words
use Rattle.buffer_lines.specs.declared.flaw.Flaw.{Flaw}
use Rattle.buffer_lines.specs.declared.flaw.Flaw.TheVariants.{NoCell, OtherSize, CursorOutside}
use Rattle.buffer_lines.specs.declared.status.Status.{Status}
use Rattle.buffer_lines.specs.Cell.{word_told}
use Rattle.buffer_lines.specs.Flaw.{column_from, flaw_by, flaw_of, is_refused, is_stop, line_column, next_column, size_flaw}
use Rattle.buffer_lines.specs.Line.{Line, silent, row, status, refused, by_prefix, data_of, is_silent, line_told, row_of, row_line, status_or}
use Rattle.buffer_lines.specs.Row.{row_from, row_told, then_cells, with_word}
use Rattle.buffer_lines.specs.Screen.{Opened, goes, stops, end_course, ended_on, fits, geometry_told, has_rows, is_blank, position_of, step_by, taken_at}
use Rattle.buffer_lines.specs.Status.{status_told}
use Rattle.buffer_lines.specs.Words.{words_of}

-- ---- words

found_by : (column : ℕ) (cells : List Cell) (word : List ℕ) (rest : List (List ℕ)) (told : Word)
    → ((more : List Cell) → is_none (row_from more rest) ≡ is_some (column_from (next_column column word) rest))
    → is_none (then_cells (with_word cells told) (λ more. row_from more rest)) ≡ is_some (cond (is_refused told) (Some column) (column_from (next_column column word) rest))
found_by column cells word rest (words.Cell cell) others = others (cells ++ cell ∷ [])
found_by column cells word rest words.Extended others = others cells
found_by column cells word rest words.Refused others = refl

-- a row isn't read where one of its words is refused
pub found_column : (column : ℕ) (cells : List Cell) (row' : List (List ℕ)) → is_none (row_from cells row') ≡ is_some (column_from column row')
found_column column cells [] = refl
found_column column cells (word ∷ rest) = found_by column cells word rest (word_told word) (λ more. found_column (next_column column word) more rest)

row_refused : (cells : Option (List Cell)) → row_of cells ≡ refused → is_none cells ≡ true
row_refused None is = refl
row_refused (Some cells) is = cc

worded : (column : ℕ) (row' : List (List ℕ)) → row_line row' ≡ refused → is_some (column_from column row') ≡ true
worded column row' is = sym (found_column column [] row') ∙ row_refused (row_told row') is

status_worded : (told : Option Status) (row' : List (List ℕ)) → status_or told row' ≡ refused → is_some (column_from 1 row') ≡ true
status_worded None row' is = worded 1 row' is
status_worded (Some told) row' is = cc

prefixed : (data' : Option (List ℕ)) (line : List ℕ) → by_prefix data' line ≡ refused → is_some (line_column data' line) ≡ true
prefixed None line is = status_worded (status_told (words_of line)) (words_of line) is
prefixed (Some data') line is = worded 7 (words_of data') is

unless_silent : (b : Bool) (line : List ℕ) → cond b silent (by_prefix (data_of line) line) ≡ refused → is_some (line_column (data_of line) line) ≡ true
unless_silent true line is = cc
unless_silent false line is = prefixed (data_of line) line is

-- ---- a row, and a status line

row_stops : (b c : Bool) (one other : Flaw) (next : Opened) → is_some (cond b None (cond c (Some one) (Some other))) ≡ is_stop (cond b (goes next) stops)
row_stops true c one other next = refl
row_stops false true one other next = refl
row_stops false false one other next = refl

position_stops : (sizes : Sizes) (cells : List Cell) (position : Option ℕ)
    → is_some (cond {A = Option Flaw} (is_some position) None (Some CursorOutside)) ≡ is_stop (end_course (taken_at sizes cells position))
position_stops sizes cells None = refl
position_stops sizes cells (Some at) = refl

size_stops : (sizes : Option Sizes) (cells : List Cell) (told : Status) → is_some (size_flaw sizes told) ≡ is_stop (end_course (ended_on sizes cells told))
size_stops None cells told = refl
size_stops (Some sizes) cells told = position_stops sizes cells (position_of sizes.alternate told.row told.col)

rows_stop : (b : Bool) (opened : Opened) (told : Status)
    → is_some (cond b (size_flaw (geometry_told told) told) (Some (OtherSize opened.rows opened.cols))) ≡ is_stop (end_course (cond b (ended_on (geometry_told told) opened.cells told) None))
rows_stop true opened told = size_stops (geometry_told told) opened.cells told
rows_stop false opened told = refl

blank_stops : (b : Bool) (opened : Opened) (told : Status)
    → is_some (cond b None (cond (has_rows opened.rows opened.cols told) (size_flaw (geometry_told told) told) (Some (OtherSize opened.rows opened.cols))))
    ≡ is_stop (cond b (goes opened) (end_course (cond (has_rows opened.rows opened.cols told) (ended_on (geometry_told told) opened.cells told) None)))
blank_stops true opened told = refl
blank_stops false opened told = rows_stop (has_rows opened.rows opened.cols told) opened told

-- ---- a line

mapped : (column : Option ℕ) → is_some column ≡ true → is_some (option_map NoCell column) ≡ true
mapped None is = is
mapped (Some column) is = refl

line_stops : (opened : Opened) (line : List ℕ) (told : Line) → (told ≡ refused → is_some (line_column (data_of line) line) ≡ true)
    → is_some (flaw_by opened line told) ≡ is_stop (step_by opened told)
line_stops opened line silent column = refl
line_stops opened line (row cells) column = row_stops (fits opened.rows opened.cols (length cells)) (nat_lt opened.rows 255) _ _ _
line_stops opened line (status told) column = blank_stops (is_blank opened) opened told
line_stops opened line refused column = mapped (line_column (data_of line) line) (column refl)

pub flaw_stops : (opened : Opened) (line : List ℕ) → is_some (flaw_of opened line) ≡ is_stop (step_by opened (line_told line))
flaw_stops opened line = line_stops opened line (line_told line) (unless_silent (is_silent line) line)
