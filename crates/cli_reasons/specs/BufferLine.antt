-- The sentence of a line of a terminal's buffer that is refused.
use Rattle.std.specs.Prelude.{ℕ, List, ◌++◌, codes, decimal, Option, option_map}
use Rattle.buffer_lines.specs.declared.flaw.Flaw.{Flaw}
use Rattle.buffer_lines.specs.declared.flaw.Flaw.TheVariants.{NoCell, OtherCells, TooManyRows, OtherSize, NoTerminal, CursorOutside}
use Rattle.cli_buffers.specs.declared.reason.BufferFlaw.{BufferFlaw}
use Rattle.cli_buffers.specs.declared.reason.BufferWhy.{BufferWhy}
use Rattle.cli_buffers.specs.declared.reason.BufferWhy.TheVariants as whys
use Rattle.cli_buffers.specs.declared.sizes.SizesLine.{SizesLine}
use Rattle.cli_buffers.specs.Reason.{buffer_flaw}
use Rattle.cli_reasons.specs.declared.head.Place.{Place}
use Rattle.cli_reasons.specs.declared.head.Place.TheVariants.{Line, Column}
use Rattle.cli_reasons.specs.Head.{head_text}

-- why a line is refused by itself, and after those before it
abbrev pub line_words : Flaw → List ℕ
line_words (NoCell column) = codes "no cell of a row: two hexadecimal digits of a character, GE(..), SF(c0=..) or SA(..=..)"
line_words (OtherCells count first) = codes "a row of " ++ (decimal count ++ (codes " cells after rows of " ++ decimal first))
line_words TooManyRows = codes "a row after 255 others"
line_words (OtherSize rows cols) = codes "another size than that of the rows before it, " ++ (decimal rows ++ (codes "x" ++ decimal cols))
line_words NoTerminal = codes "no terminal has a screen of this size"
line_words CursorOutside = codes "the cursor is outside the screen"

abbrev pub buffer_words : BufferWhy → List ℕ
buffer_words (whys.Line flaw) = line_words flaw
buffer_words whys.OtherScreen = codes "a screen of another size than the first, and '--size' tells one"
buffer_words whys.NoStatus = codes "the status line after the rows is missing"

-- of a word the column is told
abbrev pub buffer_place : ℕ → BufferWhy → Place
buffer_place number (whys.Line (NoCell column)) = Column number column
buffer_place number why = Line number

abbrev pub flaw_sentence : List ℕ → BufferFlaw → List ℕ
flaw_sentence name flaw = head_text name (buffer_place flaw.number flaw.why) ++ (buffer_words flaw.why ++ codes "\n")

-- of the first line that is refused, where one is
abbrev pub buffer_sentence : List ℕ → SizesLine → List ℕ → Option (List ℕ)
buffer_sentence name sizes text = option_map (flaw_sentence name) (buffer_flaw sizes text)
