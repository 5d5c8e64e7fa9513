-- Records and keys one after the other, and what a yes means for a screen that took them.
use Rattle.std.specs.Prelude.{◌≡◌, ℕ, true, false, List, [], ◌∷◌, Ok}
use Rattle.ds_codec.specs.Aid.{is_long_aid}
use Rattle.ds_codec.specs.Record.{Message}
use Rattle.ds_codec.specs.Reading.{read_of}
use Rattle.ds_screen.specs.declared.lock.Lock.TheVariants.{Free}
use Rattle.ds_screen.specs.Picture.{Picture}
use Rattle.ds_screen.specs.Records.{RecordShows}
use Rattle.ds_keys.specs.declared.key.Key.{Key}
use Rattle.ds_keys.specs.declared.pressed.Pressed.{Pressed}
use Rattle.ds_keys.specs.KeyStep.{KeyStep}
use Rattle.ds_keys.specs.KeyRuns as keyed
use Rattle.scr_layout.specs.Layout.{Declaration, IsLayout}
use Rattle.scr_check.specs.Opening.{opening_of}
use Rattle.scr_check.specs.Findings.{Conforms}
use Rattle.scr_check.specs.Promise.{IsProtectedSame, SendsTouched, KeepsPromise}

-- the records are read and shown in turn, and lead from one picture to the other
abbrev pub RecordsLead : Picture → List (List ℕ) → Picture → Type 0
RecordsLead before [] after = before ≡ after
RecordsLead before (bytes ∷ others) after =
    (message : Message) × (next : Picture) × (read_of before.geometry.mode bytes ≡ Ok message) × RecordShows before message next × RecordsLead next others after

-- the keys are pressed in turn, none of them sends, and they lead from one picture to the other
abbrev pub KeysLead : Picture → List Key → Picture → Type 0
KeysLead before [] after = before ≡ after
KeysLead before (key ∷ keys) after =
    (next : Picture) × (pressed : Pressed) × KeyStep before key next pressed × (keyed.is_sent pressed ≡ false) × KeysLead next keys after

-- the records lead from every picture of the layout's geometry, whatever its cells, cursor, lock and attention
-- identifier, to this one
abbrev pub LeadsFromEvery : Declaration → List (List ℕ) → Picture → Type 0
LeadsFromEvery layout records opened = (before : Picture) → before.geometry ≡ layout.geometry → RecordsLead before records opened

-- what a yes promises: the records lead to a picture, whatever was shown before, and it keeps the promise
pub record IsPromised (layout : Declaration) (records : List (List ℕ)) : Type 0 where
  pub opened : Picture
  pub opens : opening_of layout records ≡ Ok opened
  pub anywhere : LeadsFromEvery layout records opened
  pub promise : KeepsPromise layout opened

-- For a user: a picture of the layout's geometry, whatever it held before, took the records and was pressed. Then what
-- is protected stands as the records wrote it, and the next Enter or PF key on a free keyboard sends the touched fields.
-- Nothing is asked of the picture but its geometry, nor of the one that the records left; of the layout, what holds of
-- each that is read.
abbrev pub YesMeans : Type 0
YesMeans =
    (layout : Declaration) (records : List (List ℕ)) → IsLayout layout → Conforms layout records
    → (before opened v : Picture) (keys : List Key) → before.geometry ≡ layout.geometry → RecordsLead before records opened
    → KeysLead opened keys v
    → IsProtectedSame opened.cells v.cells
    × ((aid : ℕ) → is_long_aid aid ≡ true → v.lock ≡ Free → SendsTouched layout opened keys v aid)
