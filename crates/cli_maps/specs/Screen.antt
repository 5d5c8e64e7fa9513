-- What the record of a map leaves on a screen, in the screen's own words.
use Rattle.std.specs.Prelude.{◌≡◌, ℕ, ◌+◌, ◌%◌, Bool, ◌==◌, List, [], ◌∷◌, ◌++◌, map, length, slice_index, Option, Some, None, Ok, if◌then◌else◌}
use Rattle.std.specs.List.{flat_map, list_any, range_with_len}
use Rattle.ds_codec.specs.declared.cell.Cell.{Cell}
use Rattle.ds_codec.specs.declared.cell.Cell.TheVariants.{Field, Char}
use Rattle.ds_codec.specs.declared.size.Mode.TheVariants.{Bits14}
use Rattle.ds_codec.specs.Address.{six_bit_code}
use Rattle.ds_codec.specs.Character.{glyph}
use Rattle.ds_codec.specs.Geometry.{Sizes}
use Rattle.ds_codec.specs.Reading.{read_of}
use Rattle.ds_codec.specs.Record.{Message}
use Rattle.ds_screen.specs.declared.lock.Lock.TheVariants.{Free}
use Rattle.ds_screen.specs.Picture.{Picture, blank, ruled}
use Rattle.ds_codec.specs.WriteControl.{restores_keyboard}
use Rattle.ds_screen.specs.Records.{RecordShows}
use Rattle.ds_screen.specs.Ring.{ring_on}
use Rattle.bms_map.specs.declared.record.Control.{Control}
use Rattle.bms_map.specs.Fit.{Each, cells_on}
use Rattle.bms_map.specs.Maps.{LaterText, Shown, Sheet}
use Rattle.bms_map.specs.Mapset.{maps_of}
use Rattle.bms_map.specs.Record.{control_bits, command_of, map_orders}
use Rattle.order_lines.specs.Draft.{written_of}

-- ---- what is put there

-- a cell, and its position
pub record Put : Type 0 where
  pub at : ℕ
  pub cell : Cell

-- the i-th character of a text that begins at a position of n, which go round
abbrev pub character_put : ℕ → ℕ → List ℕ → ℕ → Put
character_put n at text i = record { at = (at + i) % n; cell = Char (glyph (slice_index text i) Bool.false) }

abbrev pub text_puts : ℕ → ℕ → List ℕ → List Put
text_puts n at text = map (character_put n at text) (range_with_len 0 (length text))

abbrev pub later_puts : ℕ → LaterText → List Put
later_puts n later = text_puts n later.cell later.text

-- an attribute of exactly these bits at the field's cell, and from the next cell on its text; of a group the texts of the
-- other fields too, each from its first cell on
abbrev pub field_puts : ℕ → Shown → List Put
field_puts n field =
    record { at = field.cell; cell = Field field.attribute } ∷ text_puts n (ring_on n field.cell 1) field.text ++ flat_map (later_puts n) field.later

abbrev pub fields_puts : ℕ → List Shown → List Put
fields_puts n fields = flat_map (field_puts n) fields

-- what a position holds in the end: what was put there last, or what it held
abbrev pub left_at : List Put → ℕ → Cell → Cell
left_at [] p cell = cell
left_at (put ∷ puts) p cell = left_at puts p (if put.at == p then put.cell else cell)

-- where nothing is put a position holds what it held, and where something is, the last of it
abbrev pub PutsAreLeft : Type 0
PutsAreLeft =
    ((puts : List Put) (p : ℕ) (cell : Cell) → list_any (λ (put : Put). put.at == p) puts ≡ Bool.false → left_at puts p cell ≡ cell)
    × ((early late : List Put) (put : Put) (cell : Cell) → list_any (λ (other : Put). other.at == put.at) late ≡ Bool.false
    → left_at (early ++ put ∷ late) put.at cell ≡ put.cell)

-- a null where no field puts anything
abbrev pub cell_of : Sheet → ℕ → Cell
cell_of it p = left_at (fields_puts (cells_on it.area) it.fields) p blank

-- ---- the picture

-- the cursor comes after the attribute of the field that has it; where none has, it stands at the first position
abbrev pub cursor_place : ℕ → Option ℕ → ℕ
cursor_place n None = 0
cursor_place n (Some cell) = ring_on n cell 1

-- the keyboard is freed
abbrev pub frees : Control → Sheet → Bool
frees control it = restores_keyboard (six_bit_code (control_bits it.control control))

-- a terminal whose default screen has 24 lines of 80, and whose alternate one is the map's
abbrev pub sizes_of : Sheet → Sizes
sizes_of it = record { default = record { rows = 24; cols = 80 }; alternate = it.area.screen; mode = Bits14 }

-- what the record leaves, whatever stood there before
abbrev pub picture_of : Control → Sheet → Picture → Picture
picture_of control it before =
    record before {
      size = it.area.screen;
      cells = ruled (cells_on it.area) (cell_of it);
      cursor = cursor_place (cells_on it.area) it.cursor;
      lock = if frees control it then Free else before.lock;
      aid = if frees control it then 0x60 else before.aid;
    }

-- the map's record is written; it is read as a record that is refused on no screen of the map's size, and leaves this picture
pub record IsShown (control : Control) (it : Sheet) : Type 0 where
  pub bytes : List ℕ
  pub written : written_of Bits14 (cells_on it.area) (record { command = command_of it control; orders = map_orders it }) ≡ Ok bytes
  pub message : Message
  pub read : read_of Bits14 bytes ≡ Ok message
  pub shows : (before : Picture) → before.geometry ≡ sizes_of it → RecordShows before message (picture_of control it before)

-- so it is of each map of whatever source, whatever SEND MAP adds
abbrev pub MapsAreShown : Type 0
MapsAreShown = (text : List ℕ) (maps : List Sheet) → maps_of text ≡ Ok maps → (control : Control) → Each (IsShown control) maps
