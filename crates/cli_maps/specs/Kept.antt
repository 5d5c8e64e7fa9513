-- What a yes of `check --map` promises, in the words of the map.
use Rattle.std.specs.Prelude.{◌≡◌, ℕ, ◌≤◌, true, false, List, [], ◌∷◌, length, slice_get, Some, Ok}
use Rattle.ds_codec.specs.declared.cell.Cell.{Cell}
use Rattle.ds_codec.specs.declared.size.Mode.TheVariants.{Bits14}
use Rattle.ds_codec.specs.Aid.{is_long_aid}
use Rattle.ds_screen.specs.declared.lock.Lock.TheVariants.{Free}
use Rattle.ds_screen.specs.Picture.{Picture}
use Rattle.ds_keys.specs.declared.key.Key.{Key}
use Rattle.ds_keys.specs.declared.key.Key.TheVariants.{Attention}
use Rattle.ds_keys.specs.KeyRuns as keyed
use Rattle.ds_inbound.specs.Answer.{field_sent, bytes_sent}
use Rattle.ds_inbound.specs.Inbound.{SaysOnly}
use Rattle.scr_check.specs.Any.{IsLeftOf, AreModified, with_aid}
use Rattle.scr_check.specs.Leads.{KeysLead}
use Rattle.scr_check.specs.Promise.{IsProtectedSame, AreTouched, is_among, due_answer}
use Rattle.bms_map.specs.declared.record.Control.{Control}
use Rattle.bms_map.specs.Fit.{Each, cells_on}
use Rattle.bms_map.specs.LayoutText.{place_of}
use Rattle.bms_map.specs.Maps.{Shown, Sheet}
use Rattle.bms_map.specs.Mapset.{maps_of}
use Rattle.bms_map.specs.Overlaps.{is_declared, is_input}
use Rattle.cli_maps.specs.Judged.{Judged, judge, judged}
use Rattle.cli_maps.specs.Layouts.{declaration_of}
use Rattle.cli_maps.specs.Screen.{sizes_of, picture_of}

-- nothing stands against the map: `check --map` prints `yes` for it
pub record IsYes (control : Control) (it : Sheet) : Type 0 where
  pub found : Judged
  pub judged : judge control it ≡ Ok found
  pub clean : found.findings ≡ []

-- What is sent of the attribute at q is a field of the map that has a label and is unprotected, or has a label and FSET: its
-- characters at its place, and no more of them than its length. A protected one is sent as the map has it.
pub record IsFieldSent (it : Sheet) (before after : List Cell) (q : ℕ) : Type 0 where
  pub field : Shown
  pub index : ℕ
  pub inside : slice_get it.fields index ≡ Some field
  pub named : is_declared field ≡ true
  pub place : (field_sent after q).place ≡ place_of it field
  pub short : length (field_sent after q).characters ≤ field.length
  pub fixed : is_input field ≡ false → (field_sent after q).characters ≡ (field_sent before q).characters

-- The key sends one answer: that key, the cursor where it stands, and a field for each attribute that these keys touched, in
-- rising position, each a field of the map.
pub record SendsFields (it : Sheet) (opened : Picture) (keys : List Key) (v : Picture) (aid : ℕ) : Type 0 where
  pub places : List ℕ
  pub touched : AreTouched opened keys places
  pub says : SaysOnly Bits14 (cells_on it.area) (due_answer aid v places) (bytes_sent (keyed.after_key v (Attention aid)) false)
  pub fields : (q : ℕ) → is_among places q ≡ true → IsFieldSent it opened.cells v.cells q

-- the same of the attributes that have the modified data tag, whatever keys a terminal has
pub record SendsModifiedFields (it : Sheet) (opened v : Picture) (aid : ℕ) : Type 0 where
  pub places : List ℕ
  pub modified : AreModified v.cells places
  pub says : SaysOnly Bits14 (cells_on it.area) (due_answer aid v places) (bytes_sent (with_aid aid v) false)
  pub fields : (q : ℕ) → is_among places q ≡ true → IsFieldSent it opened.cells v.cells q

-- A screen of the map's size, whatever it held before, took the record. After whatever keys of which none sends, what is
-- protected stands as the map has it, and Enter and each PF key, on a free keyboard, send fields of the map alone. So it is of
-- whatever an operator leaves at any terminal, as far as what is protected stands.
pub record IsKept (control : Control) (it : Sheet) : Type 0 where
  pub pressed : (before v : Picture) (keys : List Key) → before.geometry ≡ sizes_of it → KeysLead (picture_of control it before) keys v
      → IsProtectedSame (picture_of control it before).cells v.cells
      × ((aid : ℕ) → is_long_aid aid ≡ true → v.lock ≡ Free → SendsFields it (picture_of control it before) keys v aid)
  pub anywhere : (before v : Picture) (aid : ℕ) → before.geometry ≡ sizes_of it → IsLeftOf (picture_of control it before) v → is_long_aid aid ≡ true
      → SendsModifiedFields it (picture_of control it before) v aid

-- so it is of each map of whatever source for which the answer is yes
abbrev pub YesIsKept : Type 0
YesIsKept = (source : List ℕ) (maps : List Sheet) → maps_of source ≡ Ok maps → (control : Control) → Each (λ it. IsYes control it → IsKept control it) maps

-- the map is judged, by its own layout and its own record: nothing stops `check --map`
abbrev pub IsJudged : Control → Sheet → Type 0
IsJudged control it = (bytes : List ℕ) × (judge control it ≡ Ok (judged it (declaration_of it) (bytes ∷ [])))

abbrev pub MapsAreJudged : Type 0
MapsAreJudged = (source : List ℕ) (maps : List Sheet) → maps_of source ≡ Ok maps → (control : Control) → Each (IsJudged control) maps
