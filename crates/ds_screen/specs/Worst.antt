-- The worst that an operator can have left of a picture.
use Rattle.std.specs.Prelude.{ℕ, Bool, true, ◌&&◌, nat_lt, List, length, if◌then◌else◌}
use Rattle.ds_codec.specs.declared.cell.Cell.{Cell}
use Rattle.ds_codec.specs.declared.cell.Cell.TheVariants.{Field, Char}
use Rattle.ds_codec.specs.Attribute.{with_modified}
use Rattle.ds_screen.specs.declared.lock.Lock.TheVariants.{Waiting}
use Rattle.ds_screen.specs.Picture.{Picture, cell_at, ruled}
use Rattle.ds_screen.specs.Fields.{span_of}
use Rattle.ds_screen.specs.Orders.{is_unprotected_attribute}
use Rattle.ds_screen.specs.Outline.{Outlined, IsOutlineOf}

-- an attribute with its modified data tag set
abbrev pub tagged : Cell → Cell
tagged (Field bits) = Field (with_modified bits true)
tagged (Char character) = Char character

-- an unprotected attribute that governs a cell: a field that can be typed into
abbrev pub begins_input : List Cell → ℕ → Bool
begins_input cells p = is_unprotected_attribute (cell_at cells p) && nat_lt 0 (length (span_of cells p))

-- each such attribute is modified, every other cell stays
unfoldable pub worst_cell : List Cell → ℕ → Cell
worst_cell cells p = if begins_input cells p then tagged (cell_at cells p) else cell_at cells p

-- every field that can be typed into is modified, and the keyboard waits; the cursor and the attention identifier stay
abbrev pub worst_of : Picture → Picture
worst_of v = record v { cells = ruled (length v.cells) (worst_cell v.cells); lock = Waiting }

-- whatever picture it outlined, it outlines the worst of it
abbrev pub OutlinesWorst : Outlined → Outlined → Type 0
OutlinesWorst before after = (v : Picture) → IsOutlineOf before v → IsOutlineOf after (worst_of v)
