-- For the code's own proofs: no public contract rests on this file.
-- What a write begins with, on whatever shows cells.
use Rattle.std.specs.Prelude.{◌≡◌, ℕ, List, Option, Some, None}
use Rattle.ds_codec.specs.declared.cell.Cell.{Cell}
use Rattle.ds_codec.specs.declared.size.Size.{Size}
use Rattle.ds_codec.specs.declared.command.Command.{Command}
use Rattle.ds_codec.specs.Geometry.{Sizes}
use Rattle.ds_screen.specs.declared.records.Base.{Base}
use Rattle.ds_screen.specs.Kept.{Start, start_of}

abbrev pub start_from : Base → List Cell → Start
start_from base cells = record { wcc = base.wcc; size = base.size; cells = cells; cursor = base.cursor }

-- the command is no write, or the spare one shows what it begins with
abbrev pub Prepares : {S : Type 0} → (S → List Cell → Type 0) → Sizes → Size → ℕ → Command → Option Base → S → List Cell → Type 0
Prepares shows geometry size cursor command None spare cells = start_of geometry size cells cursor command ≡ None
Prepares shows geometry size cursor command (Some base) spare cells =
    (later : List Cell) × shows spare later × (start_of geometry size cells cursor command ≡ Some (start_from base later))
