-- For the code's own proofs: no public contract rests on this file, but that a screen's fields are seen as a `picture`.
-- What a screen keeps beside its picture, and what a write begins with.
use Rattle.std.specs.Prelude.{ℕ, ◌≤◌, List, replicate, Option, Some, None}
use Rattle.ds_codec.specs.declared.cell.Cell.{Cell}
use Rattle.ds_codec.specs.declared.size.Size.{Size}
use Rattle.ds_codec.specs.declared.command.Command.{Command}
use Rattle.ds_codec.specs.declared.command.Command.TheVariants.{Write, EraseWrite, EraseWriteAlternate}
use Rattle.ds_codec.specs.Geometry.{Sizes, cells_of}
use Rattle.ds_screen.specs.Picture.{Picture, blank}
use Rattle.ds_screen.specs.declared.lock.Lock.{Lock}

abbrev pub picture : Sizes → Size → List Cell → ℕ → Lock → ℕ → Picture
picture geometry size cells cursor lock aid =
    record { geometry = geometry; size = size; cells = cells; cursor = cursor; lock = lock; aid = aid }

-- a buffer has room for either size
pub record HasRoom (geometry : Sizes) (room : ℕ) : Type 0 where
  pub default : cells_of geometry.default ≤ room
  pub alternate : cells_of geometry.alternate ≤ room

-- what a write begins with, erased or not
pub record Start : Type 0 where
  pub wcc : ℕ
  pub size : Size
  pub cells : List Cell
  pub cursor : ℕ

abbrev pub start_of : Sizes → Size → List Cell → ℕ → Command → Option Start
start_of geometry size cells cursor (Write wcc) = Some (record { wcc = wcc; size = size; cells = cells; cursor = cursor })
start_of geometry size cells cursor (EraseWrite wcc) =
    Some (record { wcc = wcc; size = geometry.default; cells = replicate (cells_of geometry.default) blank; cursor = 0 })
start_of geometry size cells cursor (EraseWriteAlternate wcc) =
    Some (record { wcc = wcc; size = geometry.alternate; cells = replicate (cells_of geometry.alternate) blank; cursor = 0 })
start_of geometry size cells cursor command = None
