-- The attributes of a buffer as a list, in the rising order of their positions.
use Rattle.std.specs.Prelude.{◌≡◌, ◌≤◌, ℕ, List, length, Option, Some, None}
use Rattle.ds_codec.specs.declared.cell.Cell.{Cell}
use Rattle.ds_codec.specs.declared.cell.Cell.TheVariants.{Field, Char}
use Rattle.ds_places.specs.Places.{at_place, IsRising, IsWithin}
use Rattle.ds_screen.specs.declared.mark.Mark.{Mark}
use Rattle.ds_screen.specs.declared.records.Reset.{Reset}
use Rattle.ds_screen.specs.Picture.{blank, cell_at, ruled}
use Rattle.ds_screen.specs.Fields.{bits_of}
use Rattle.ds_screen.specs.Reset.{after_reset}

abbrev pub place_of : Mark → ℕ
place_of mark = mark.at

-- the attribute that a cell at p holds
abbrev pub mark_of : ℕ → Cell → Option Mark
mark_of p (Field bits) = Some (record { at = p; attribute = bits })
mark_of p (Char glyph) = None

-- a list of attributes, the number of positions, and for how many there is room
pub record Marked : Type 0 where
  pub marks : List Mark
  pub size : ℕ
  pub room : ℕ

abbrev pub marked : List Mark → ℕ → ℕ → Marked
marked marks size room = record { marks = marks; size = size; room = room }

-- in rising order, each below the number of positions, for each of which there is room
pub record IsKept (v : Marked) : Type 0 where
  pub rising : IsRising place_of v.marks
  pub inside : IsWithin place_of v.size v.marks
  pub room : v.size ≤ v.room

-- the marks are exactly the attributes of the cells
pub record IsMarked (v : Marked) (cells : List Cell) : Type 0 where
  pub sized : length cells ≡ v.size
  pub each : (p : ℕ) → at_place place_of v.marks p ≡ mark_of p (cell_at cells p)

-- a mark whose modified data tag is reset
abbrev pub reset_mark : Reset → Mark → Mark
reset_mark which mark = record { at = mark.at; attribute = bits_of (after_reset which (Field mark.attribute)) }

-- the cell of a position that holds this mark, or none
abbrev pub cell_held : Option Mark → Cell
cell_held None = blank
cell_held (Some mark) = Field mark.attribute

-- the emptiest cells that have these attributes
unfoldable pub bare_cells : Marked → List Cell
bare_cells v = ruled v.size (λ p. cell_held (at_place place_of v.marks p))
