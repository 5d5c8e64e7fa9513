-- For the code's own proofs: only functions within the crate cite this file, so no public contract rests on it.
-- Cells that were noted before keys changed them.
use Rattle.std.specs.Prelude.{◌≡◌, ℕ, ◌<◌, List, [], ◌∷◌, length, slice_set}
use Rattle.ds_codec.specs.declared.cell.Cell.{Cell}
use Rattle.ds_screen.specs.Picture.{Picture, cell_at}
use Rattle.ds_screen.specs.Fields.{is_attribute}
use Rattle.demo_screens.specs.declared.notes.Note.{Note}

abbrev pub note_of : List Cell → ℕ → Note
note_of cells p = record { place = p; cell = cell_at cells p }

-- the cells once what was noted stands there again, the last note first
abbrev pub undone : List Cell → List Note → List Cell
undone cells [] = cells
undone cells (note ∷ notes) = slice_set (undone cells notes) note.place note.cell

-- where each note was taken a cell of the same kind stands
abbrev pub AreAlike : List Cell → List Note → Type 0
AreAlike cells [] = Unit {0}
AreAlike cells (note ∷ notes) =
    (note.place < length cells) × (is_attribute (cell_at cells note.place) ≡ is_attribute note.cell) × AreAlike cells notes

-- the notes lead back from one picture to another, its cursor, lock and attention identifier aside
pub record LeadBack (before now : Picture) (notes : List Note) : Type 0 where
  pub geometry : now.geometry ≡ before.geometry
  pub size : now.size ≡ before.size
  pub cells : undone now.cells notes ≡ before.cells
  pub alike : AreAlike now.cells notes
