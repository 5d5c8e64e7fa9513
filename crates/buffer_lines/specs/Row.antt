-- A row of the buffer.
use Rattle.std.specs.Prelude.{ℕ, List, [], ◌∷◌, ◌++◌, Option, Some, None}
use Rattle.ds_codec.specs.declared.cell.Cell.{Cell}
use Rattle.buffer_lines.specs.declared.cell.Word.{Word}
use Rattle.buffer_lines.specs.declared.cell.Word.TheVariants as words
use Rattle.buffer_lines.specs.Cell.{word_told}

-- the cells before and that of a word, if it tells one
abbrev pub with_word : List Cell → Word → Option (List Cell)
with_word cells (words.Cell cell) = Some (cells ++ cell ∷ [])
with_word cells words.Extended = Some cells
with_word cells words.Refused = None

abbrev pub then_cells : Option (List Cell) → (List Cell → Option (List Cell)) → Option (List Cell)
then_cells None more = None
then_cells (Some cells) more = more cells

-- behind the cells before
abbrev pub row_from : List Cell → List (List ℕ) → Option (List Cell)
row_from cells [] = Some cells
row_from cells (word ∷ rest) = then_cells (with_word cells (word_told word)) (λ more. row_from more rest)

abbrev pub row_told : List (List ℕ) → Option (List Cell)
row_told row = row_from [] row
