-- The cells that a line tells are some that a terminal can hold.
use Rattle.std.proofs.Common.{◌≡◌, ◌%◌, ◌<◌, ℕ, Bool, true, false, cond, List, [], ◌∷◌, ◌++◌, Option, Some, None, refl, arith}
use Rattle.ds_codec.specs.declared.cell.Cell.{Cell}
use Rattle.ds_codec.specs.declared.cell.Cell.TheVariants as cells
use Rattle.ds_codec.specs.Character.{glyph, is_glyph}
use Rattle.buffer_lines.specs.declared.cell.Kind.{Kind}
use Rattle.buffer_lines.specs.declared.cell.Kind.TheVariants as kinds
use Rattle.buffer_lines.specs.declared.cell.Word.{Word}
use Rattle.buffer_lines.specs.declared.cell.Word.TheVariants as words
use Rattle.buffer_lines.specs.declared.status.Status.{Status}
use Rattle.buffer_lines.specs.Cell.{byte_told, kind_of, char_word, field_of, field_word, glyph_word, set_word, named_told, word_told}
use Rattle.buffer_lines.specs.Left.{IsHeld, AreHeld, IsHeldLine}
use Rattle.buffer_lines.specs.Line.{Line, silent, by_prefix, data_of, is_silent, line_told, row_of, row_line, status_or}
use Rattle.buffer_lines.specs.Row.{with_word, then_cells, row_from, row_told}
use Rattle.buffer_lines.specs.Status.{status_told}
use Rattle.buffer_lines.specs.Words.{words_of}
use Rattle.buffer_lines.proofs.Items.{held_both}

-- ---- a word

abbrev IsHeldWord : Word → Type 0
IsHeldWord (words.Cell cell) = IsHeld cell
IsHeldWord words.Extended = Unit {0}
IsHeldWord words.Refused = Unit {0}

glyph_held : (code : ℕ) (alt test : Bool) → is_glyph (glyph code alt) ≡ test → IsHeldWord (cond test (words.Cell (cells.Char (glyph code alt))) words.Refused)
glyph_held code alt true is = is
glyph_held code alt false is = tt

char_held : (code : Option ℕ) (alt : Bool) → IsHeldWord (char_word code alt)
char_held None alt = tt
char_held (Some code) alt = glyph_held code alt (is_glyph (glyph code alt)) refl

attribute_held : (byte : Option ℕ) → IsHeldWord (field_of byte)
attribute_held None = tt
attribute_held (Some byte) = let small : byte % 64 < 64 = omega arith in small

or_refused : (test : Bool) (word : Word) → IsHeldWord word → IsHeldWord (cond test word words.Refused)
or_refused true word held = held
or_refused false word held = tt

field_held : (inside : List ℕ) → IsHeldWord (field_word inside)
field_held [] = tt
field_held (a ∷ []) = tt
field_held (a ∷ b ∷ []) = tt
field_held (a ∷ b ∷ c ∷ []) = tt
field_held (a ∷ b ∷ c ∷ d ∷ []) = tt
field_held (c ∷ nought ∷ sign ∷ high ∷ low ∷ more) = or_refused _ (field_of (byte_told high low)) (attribute_held (byte_told high low))

graphic_held : (inside : List ℕ) → IsHeldWord (glyph_word inside)
graphic_held [] = tt
graphic_held (a ∷ []) = tt
graphic_held (a ∷ b ∷ []) = tt
graphic_held (high ∷ low ∷ end ∷ []) = or_refused _ (char_word (byte_told high low) true) (char_held (byte_told high low) true)
graphic_held (a ∷ b ∷ c ∷ d ∷ more) = tt

set_held : (inside : List ℕ) → IsHeldWord (set_word inside)
set_held [] = tt
set_held (a ∷ []) = tt
set_held (a ∷ b ∷ []) = tt
set_held (a ∷ b ∷ c ∷ []) = tt
set_held (a ∷ b ∷ c ∷ d ∷ []) = tt
set_held (a ∷ b ∷ c ∷ d ∷ e ∷ []) = tt
set_held (a ∷ b ∷ sign ∷ c ∷ d ∷ end ∷ []) = or_refused _ words.Extended tt
set_held (a ∷ b ∷ c ∷ d ∷ e ∷ f ∷ g ∷ more) = tt

named_held : (kind : Option Kind) (inside : List ℕ) → IsHeldWord (named_told kind inside)
named_held None inside = tt
named_held (Some kinds.Field) inside = field_held inside
named_held (Some kinds.Graphic) inside = graphic_held inside
named_held (Some kinds.Set) inside = set_held inside

word_held : (word : List ℕ) → IsHeldWord (word_told word)
word_held [] = tt
word_held (one ∷ []) = tt
word_held (high ∷ low ∷ []) = char_held (byte_told high low) false
word_held (first ∷ second ∷ third ∷ inside) = named_held (kind_of first second third) inside

-- ---- a row

abbrev IsHeldRow : Option (List Cell) → Type 0
IsHeldRow None = Unit {0}
IsHeldRow (Some cells) = AreHeld cells

with_held : (held : List Cell) (word : Word) (more : List Cell → Option (List Cell)) → AreHeld held → IsHeldWord word → ((later : List Cell) → AreHeld later → IsHeldRow (more later))
    → IsHeldRow (then_cells (with_word held word) more)
with_held held (words.Cell cell) more all this on = on (held ++ cell ∷ []) (held_both held (cell ∷ []) all (this, tt))
with_held held words.Extended more all this on = on held all
with_held held words.Refused more all this on = tt

row_held : (held : List Cell) (row' : List (List ℕ)) → AreHeld held → IsHeldRow (row_from held row')
row_held held [] all = all
row_held held (word ∷ rest) all = with_held held (word_told word) (λ more. row_from more rest) all (word_held word) (λ later each. row_held later rest each)

-- ---- a line

row_of_held : (row' : Option (List Cell)) → IsHeldRow row' → IsHeldLine (row_of row')
row_of_held None all = tt
row_of_held (Some cells) all = all

row_line_held : (row' : List (List ℕ)) → IsHeldLine (row_line row')
row_line_held row' = row_of_held (row_told row') (row_held [] row' tt)

status_held : (told : Option Status) (row' : List (List ℕ)) → IsHeldLine (status_or told row')
status_held (Some told) row' = tt
status_held None row' = row_line_held row'

prefix_held : (data' : Option (List ℕ)) (line : List ℕ) → IsHeldLine (by_prefix data' line)
prefix_held (Some data') line = row_line_held (words_of data')
prefix_held None line = status_held (status_told (words_of line)) (words_of line)

silent_held : (test : Bool) (line : Line) → IsHeldLine line → IsHeldLine (cond test silent line)
silent_held true line held = tt
silent_held false line held = held

pub line_held : (line : List ℕ) → IsHeldLine (line_told line)
line_held line = silent_held (is_silent line) (by_prefix (data_of line) line) (prefix_held (data_of line) line)
