-- What a checker keeps of a screen: its sizes, its attributes, the cursor and the lock, and no cell.
use Rattle.std.specs.Prelude.{◌≡◌, ◌<◌, ◌≤◌, ℕ}
use Rattle.ds_codec.specs.declared.size.Size.{Size}
use Rattle.ds_codec.specs.Geometry.{Sizes, cells_of}
use Rattle.ds_codec.specs.Record.{Message}
use Rattle.ds_screen.specs.declared.lock.Lock.{Lock}
use Rattle.ds_screen.specs.declared.refused.Refused.{Refused}
use Rattle.ds_screen.specs.Picture.{Picture, IsSound}
use Rattle.ds_screen.specs.Records.{RecordShows, IsRefusedBy, all_cleared}
use Rattle.ds_screen.specs.Kept.{HasRoom}
use Rattle.ds_screen.specs.Marks.{Marked, IsMarked}

pub record Outlined : Type 0 where
  pub geometry : Sizes
  pub size : Size
  pub marks : Marked
  pub cursor : ℕ
  pub lock : Lock

abbrev pub outlined : Sizes → Size → Marked → ℕ → Lock → Outlined
outlined geometry size marks cursor lock = record { geometry = geometry; size = size; marks = marks; cursor = cursor; lock = lock }

-- what holds of every outline: as many positions as the size in use has, the cursor at one of them, and room for either
-- size, in the spare list too
pub record IsHeld (o : Outlined) (spare : ℕ) : Type 0 where
  pub whole : o.marks.size ≡ cells_of o.size
  pub cursor : o.cursor < cells_of o.size
  pub fits : cells_of o.size ≤ o.marks.room
  pub spare_fits : cells_of o.size ≤ spare
  pub room : HasRoom o.geometry o.marks.room
  pub spare_room : HasRoom o.geometry spare

-- the outline of a sound picture
pub record IsOutlineOf (o : Outlined) (v : Picture) : Type 0 where
  pub geometry : o.geometry ≡ v.geometry
  pub size : o.size ≡ v.size
  pub marks : IsMarked o.marks v.cells
  pub cursor : o.cursor ≡ v.cursor
  pub lock : o.lock ≡ v.lock
  pub sound : IsSound v

-- whatever picture it outlined, it outlines what the record makes of that picture
abbrev pub OutlinesShown : Outlined → Message → Outlined → Type 0
OutlinesShown before message after = (v : Picture) → IsOutlineOf before v → (w : Picture) × RecordShows v message w × IsOutlineOf after w

-- whatever picture it outlines, the record is refused for that picture
abbrev pub OutlinesRefused : Outlined → Message → Refused → Type 0
OutlinesRefused before message refused = (v : Picture) → IsOutlineOf before v → IsRefusedBy v message refused

-- the same of Erase All Unprotected
abbrev pub OutlinesCleared : Outlined → Outlined → Type 0
OutlinesCleared before after = (v : Picture) → IsOutlineOf before v → IsOutlineOf after (all_cleared v)
