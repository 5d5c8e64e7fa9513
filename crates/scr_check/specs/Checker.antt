-- A checker that takes records one at a time.
use Rattle.std.specs.Prelude.{◌≡◌, ℕ, List, [], ◌∷◌, ◌++◌, length, Option, Some, None, Result, Ok, Err, if◌then◌else◌}
use Rattle.ds_codec.specs.declared.command.Command.{Command}
use Rattle.ds_codec.specs.declared.command.Command.TheVariants.{EraseWrite, EraseWriteAlternate}
use Rattle.ds_codec.specs.Geometry.{Sizes, cells_of}
use Rattle.ds_codec.specs.WriteControl.{restores_keyboard}
use Rattle.ds_codec.specs.Record.{Message}
use Rattle.ds_codec.specs.Reading.{read_of}
use Rattle.ds_screen.specs.Picture.{Picture}
use Rattle.ds_screen.specs.Outline.{Outlined, IsOutlineOf, OutlinesShown}
use Rattle.ds_screen.specs.Records.{new_picture, shown_of, RecordShows}
use Rattle.scr_layout.specs.Layout.{Declaration}
use Rattle.scr_check.specs.declared.finding.Finding.{Finding}
use Rattle.scr_check.specs.Opening.{applied, taken, taken_from}

-- what a checker checks: records, in the order in which it took them, against a layout
pub record Checked : Type 0 where
  pub layout : Declaration
  pub records : List (List ℕ)

-- Nothing stands against the records on a new terminal of the layout's geometry, and they lead to a picture of this outline;
-- or this is the first that does.
abbrev pub LeadsTo : Declaration → List (List ℕ) → Outlined → Option Finding → Type 0
LeadsTo layout records outline None = (v : Picture) × (taken_from 0 (new_picture layout.geometry) records ≡ Ok v) × IsOutlineOf outline v
LeadsTo layout records outline (Some finding) = taken_from 0 (new_picture layout.geometry) records ≡ Err finding

-- ---- for the code's own proofs

-- what was reached, and the record that waits, where one does
pub record Reach : Type 0 where
  pub outline : Outlined
  pub waiting : Option (List ℕ)

-- The picture that was reached is outlined. Where a record waits, that one leads to it from one that is.
abbrev pub IsReachedBy : Outlined → Option (List ℕ) → Picture → Type 0
IsReachedBy outline None v = IsOutlineOf outline v
IsReachedBy outline (Some bytes) v =
    (before : Picture) × (message : Message) × IsOutlineOf outline before × (read_of before.geometry.mode bytes ≡ Ok message) × RecordShows before message v

-- what was reached is outlined then
abbrev pub CatchesUp : Reach → Outlined → Type 0
CatchesUp reach after = (v : Picture) → IsReachedBy reach.outline reach.waiting v → IsOutlineOf after v

-- how many positions the screen has that a command begins anew, erased and with a free keyboard
abbrev pub cells_anew : Sizes → Command → Option ℕ
cells_anew geometry (EraseWrite wcc) = if restores_keyboard wcc then Some (cells_of geometry.default) else None
cells_anew geometry (EraseWriteAlternate wcc) = if restores_keyboard wcc then Some (cells_of geometry.alternate) else None
cells_anew geometry command = None

-- whatever picture was outlined, the record of this number leads from it to one that is outlined then, or is refused so
abbrev pub AppliesOn : ℕ → Outlined → Message → Result (Unit {0}) Finding → Outlined → Type 0
AppliesOn index before message (Ok done) after = OutlinesShown before message after
AppliesOn index before message (Err finding) after =
    (v : Picture) → IsOutlineOf before v → applied index (shown_of v message.command message.orders) ≡ Err finding

-- from whatever picture was reached the record leads to one that is reached then, or it is refused so
abbrev pub AppliesFrom : ℕ → Reach → Message → Result (Unit {0}) Finding → Reach → Picture → Type 0
AppliesFrom index before message (Ok done) after v =
    (w : Picture) × RecordShows v message w × IsReachedBy after.outline after.waiting w
AppliesFrom index before message (Err finding) after v = applied index (shown_of v message.command message.orders) ≡ Err finding

-- these bytes are the record, and it begins anew a screen of so many positions of such a geometry
pub record IsAnew (geometry : Sizes) (bytes : List ℕ) (cells : ℕ) (message : Message) : Type 0 where
  pub reads : read_of geometry.mode bytes ≡ Ok message
  pub anew : cells_anew geometry message.command ≡ Some cells

-- the same of a record that begins anew
abbrev pub TakesAnew : ℕ → Reach → List ℕ → ℕ → Message → Result (Unit {0}) Finding → Reach → Type 0
TakesAnew index before bytes cells message result after =
    (v : Picture) → IsReachedBy before.outline before.waiting v → IsAnew v.geometry bytes cells message → AppliesFrom index before message result after v

-- whatever picture was reached, the record of this number leads to one that is reached then, or this stands against it
abbrev pub TakesFrom : ℕ → Reach → List ℕ → Result (Unit {0}) Finding → Reach → Type 0
TakesFrom index before bytes (Ok done) after =
    (v : Picture) → IsReachedBy before.outline before.waiting v
    → (w : Picture) × (taken index v (read_of v.geometry.mode bytes) ≡ Ok w) × IsReachedBy after.outline after.waiting w
TakesFrom index before bytes (Err finding) after =
    (v : Picture) → IsReachedBy before.outline before.waiting v → taken index v (read_of v.geometry.mode bytes) ≡ Err finding

-- nothing stands against the records, and what they lead to is reached; or this is the first that does
abbrev pub LeadsUnless : Declaration → List (List ℕ) → Reach → Option Finding → Type 0
LeadsUnless layout records reach None =
    (v : Picture) × (taken_from 0 (new_picture layout.geometry) records ≡ Ok v) × IsReachedBy reach.outline reach.waiting v
LeadsUnless layout records reach (Some finding) = taken_from 0 (new_picture layout.geometry) records ≡ Err finding

-- whatever records led to the one, they and the record of this number lead to the other
abbrev pub LeadsOn : Reach → Option Finding → ℕ → List ℕ → Reach → Option Finding → Type 0
LeadsOn before stands index bytes after next =
    (layout : Declaration) (records : List (List ℕ)) → index ≡ length records → LeadsUnless layout records before stands
    → LeadsUnless layout (records ++ bytes ∷ []) after next
