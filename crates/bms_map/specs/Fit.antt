-- What holds of each map of a source.
use Rattle.std.specs.Prelude.{◌≡◌, ◌≤◌, ◌<◌, ◌⊎◌, ℕ, ◌+◌, ◌*◌, ◌==◌, true, false, List, [], ◌∷◌, codes, map, length, Option, Some, None, Ok}
use Rattle.std.specs.List.{list_all, list_any}
use Rattle.ds_codec.specs.declared.size.Size.{Size}
use Rattle.ds_codec.specs.Character.{is_text}
use Rattle.ds_codec.specs.Order.{last_attribute}
use Rattle.ds_codec.specs.declared.size.Mode.TheVariants.{Bits14}
use Rattle.ds_codec.specs.Writing.{are_good_pairs, IsReadAgain}
use Rattle.order_lines.specs.Draft.{written_of}
use Rattle.bms_source.specs.Words.{is_of_symbol}
use Rattle.bms_map.specs.Entries.{same}
use Rattle.bms_map.specs.LayoutText.{lower, numbered}
use Rattle.bms_map.specs.Maps.{Ground, LaterText, Shown, Sheet}
use Rattle.bms_map.specs.Mapset.{maps_of}
use Rattle.bms_map.specs.Record.{command_of, map_orders}
use Rattle.bms_map.specs.declared.record.Control.{Control}

-- each of a list
abbrev pub Each : {A : Type 0} → (A → Type 0) → List A → Type 0
Each P [] = Unit {0}
Each P (x ∷ xs) = P x × Each P xs

-- the screens on which maps are shown
abbrev pub IsScreen : Size → Type 0
IsScreen screen =
    (screen ≡ record { rows = 24; cols = 80 }) ⊎ ((screen ≡ record { rows = 32; cols = 80 })
    ⊎ ((screen ≡ record { rows = 43; cols = 80 }) ⊎ (screen ≡ record { rows = 27; cols = 132 })))

abbrev pub cells_on : Ground → ℕ
cells_on area = area.screen.rows * area.screen.cols

-- it lies on one of these screens
pub record LiesOn (area : Ground) : Type 0 where
  pub screen : IsScreen area.screen
  pub down : area.top + area.lines ≤ area.screen.rows
  pub across : area.left + area.columns ≤ area.screen.cols

-- the text of a later field of a group begins on the screen, and is of characters that a record takes
pub record IsLaterOn (cells : ℕ) (later : LaterText) : Type 0 where
  pub inside : later.cell < cells
  pub text : list_all is_text later.text ≡ true

-- a field's attribute stands on the screen, has six bits, and is that of its pairs, where it has some; its text is of such
-- characters, no more than the field has
pub record IsFieldOn (cells : ℕ) (field : Shown) : Type 0 where
  pub inside : field.cell < cells
  pub six : field.attribute < 64
  pub pairs : (field.pairs ≡ []) ⊎ ((are_good_pairs field.pairs ≡ true) × (last_attribute field.pairs ≡ Some field.attribute))
  pub text : list_all is_text field.text ≡ true
  pub short : length field.text ≤ field.length
  pub later : Each (IsLaterOn cells) field.later

-- there is a field whose attribute stands at the place where the cursor is asked for
abbrev pub HasCursor : Option ℕ → List Shown → Type 0
HasCursor None fields = Unit {0}
HasCursor (Some cell) fields = list_any (λ (field : Shown). cell == field.cell) fields ≡ true

-- a field that has a label has some characters, and fewer than the screen has positions; its name is of a symbol's characters,
-- 32 of them at most with the number of its occurrence
pub record IsNamedOn (cells : ℕ) (field : Shown) : Type 0 where
  pub some : 1 ≤ field.length
  pub few : field.length < cells
  pub symbol : list_all is_of_symbol field.label ≡ true
  pub short : length field.label + length (numbered (codes "-") [] field.occurrence) ≤ 32
  pub number : field.occurrence ≤ 1000

abbrev pub IsNamedIf : ℕ → Shown → Type 0
IsNamedIf cells field = 1 ≤ length field.label → IsNamedOn cells field

-- their attributes stand at two places; where both have labels these differ, or their numbers do
abbrev pub Apart : Shown → Shown → Type 0
Apart field other =
    ((field.cell == other.cell) ≡ false)
    × (1 ≤ length field.label → 1 ≤ length other.label
    → (same (map lower field.label) (map lower other.label) ≡ false) ⊎ ((field.occurrence == other.occurrence) ≡ false))

-- each of a list and each later one
abbrev pub AreApart : List Shown → Type 0
AreApart [] = Unit {0}
AreApart (field ∷ fields) = Each (Apart field) fields × AreApart fields

pub record IsFit (it : Sheet) : Type 0 where
  pub ground : LiesOn it.area
  pub fields : Each (IsFieldOn (cells_on it.area)) it.fields
  pub cursor : HasCursor it.cursor it.fields
  pub named : Each (IsNamedIf (cells_on it.area)) it.fields
  pub apart : AreApart it.fields
  pub few : length it.fields ≤ 1000

-- whatever the source
abbrev pub MapsAreFit : Type 0
MapsAreFit = (text : List ℕ) (maps : List Sheet) → maps_of text ≡ Ok maps → Each IsFit maps

-- the record of such a map is written, whatever SEND MAP adds, and is read again as the same command with the same orders
abbrev pub IsWritten : Sheet → Control → Type 0
IsWritten it control =
    (bytes : List ℕ) × (written_of Bits14 (cells_on it.area) (record { command = command_of it control; orders = map_orders it }) ≡ Ok bytes)
    × IsReadAgain Bits14 (command_of it control) (map_orders it) bytes

abbrev pub RecordsAreWritten : Type 0
RecordsAreWritten = (it : Sheet) (control : Control) → IsFit it → IsWritten it control
