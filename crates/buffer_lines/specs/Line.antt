-- What one line tells.
use Rattle.std.specs.Prelude.{ℕ, Bool, true, false, ◌==◌, ◌&&◌, List, [], ◌∷◌, Option, Some, None, if◌then◌else◌}
use Rattle.ds_codec.specs.declared.cell.Cell.{Cell}
use Rattle.buffer_lines.specs.declared.line.BufferLine.{BufferLine}
use Rattle.buffer_lines.specs.declared.line.BufferLine.TheVariants as lines
use Rattle.buffer_lines.specs.declared.status.Status.{Status}
use Rattle.buffer_lines.specs.Row.{row_told}
use Rattle.buffer_lines.specs.Status.{status_told}
use Rattle.buffer_lines.specs.Words.{words_of}

-- a line, apart from where its cells lie in memory
pub data Line : Type 0 where
  silent : Line
  row : (cells : List Cell) → Line
  status : (told : Status) → Line
  refused : Line

abbrev pub line_seen : BufferLine → Line
line_seen lines.Silent = silent
line_seen (lines.Row cells) = row cells.items
line_seen (lines.Status told) = status told
line_seen lines.Refused = refused

-- no byte, or `ok`
abbrev pub is_silent : List ℕ → Bool
is_silent [] = true
is_silent (o ∷ k ∷ []) = o == 0x6F && k == 0x6B
is_silent line = false

-- what follows `data: `, where a line begins so
abbrev pub data_of : List ℕ → Option (List ℕ)
data_of (d ∷ a ∷ t ∷ b ∷ colon ∷ space ∷ rest) =
    if d == 0x64 && a == 0x61 && t == 0x74 && b == 0x61 && colon == 0x3A && space == 0x20 then Some rest else None
data_of line = None

abbrev pub row_of : Option (List Cell) → Line
row_of None = refused
row_of (Some cells) = row cells

abbrev pub row_line : List (List ℕ) → Line
row_line words = row_of (row_told words)

abbrev pub status_or : Option Status → List (List ℕ) → Line
status_or (Some told) words = status told
status_or None words = row_line words

abbrev pub words_line : List (List ℕ) → Line
words_line words = status_or (status_told words) words

abbrev pub by_prefix : Option (List ℕ) → List ℕ → Line
by_prefix (Some data') line = row_line (words_of data')
by_prefix None line = words_line (words_of line)

-- a row behind `data: `, or without it a status line or a row
abbrev pub line_told : List ℕ → Line
line_told line = if is_silent line then silent else by_prefix (data_of line) line
