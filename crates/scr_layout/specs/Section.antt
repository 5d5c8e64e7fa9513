-- The pairs of a field as a table: its members stand in the order of their keys.
use Rattle.std.specs.Prelude.{◌≡◌, ◌<◌, ◌≤◌, length, true, ℕ, ℤ, pos, List, [], Option, Some, None, option_map, String, string_bytes, Ok}
use Rattle.std.specs.declared.alloc.Global.{Global}
use Rattle.ds_codec.specs.declared.size.Size.{Size}
use Rattle.ds_codec.specs.Geometry.{cells_of}
use Rattle.toml.specs.Data.{Data, string, integer, Items, Members, no_members, member}
use Rattle.scr_layout.specs.declared.fault.LayoutKey.{LayoutKey}
use Rattle.scr_layout.specs.declared.fault.LayoutKey.TheVariants.{Name, Row, Col, Length, Kind, Count, Down, Field}
use Rattle.scr_layout.specs.declared.entry.Kind.{Kind as EntryKind}
use Rattle.scr_layout.specs.declared.rows.Rows.{Rows}
use Rattle.scr_layout.specs.declared.section.Section.{Section}
use Rattle.scr_layout.specs.declared.top.Version.{Version}
use Rattle.scr_layout.specs.declared.top.Head.{Head}
use Rattle.scr_layout.specs.Entry.{Declared, is_name}
use Rattle.scr_layout.specs.Fault.{key_text}
use Rattle.scr_layout.specs.Values.{has_only}
use Rattle.scr_layout.specs.Field.{field_keys, name_of, integer_at, place_of, length_of, kind_of}
use Rattle.scr_layout.specs.Rows.{rows_of}
use Rattle.scr_layout.specs.Top.{top_keys, version_of, mode_of, default_of, alternate_of, screen_of, tables_in, are_tables}
use Rattle.scr_layout.specs.Layout.{Declaration, entries_of}
use Rattle.plain_tables.specs.Plain.{AreTables}

abbrev pub text_data : Option (String Global) → Option Data
text_data found = option_map (λ text. string (string_bytes text)) found

abbrev pub number_data : Option ℕ → Option Data
number_data found = option_map (λ n. integer (pos n)) found

-- the member of a key, where it is there, before others
abbrev pub slot : LayoutKey → Option Data → Members → Members
slot key None rest = rest
slot key (Some d) rest = member (key_text key) d rest

-- what each key of a field holds, as members
unfoldable pub slots : Option Data → Option Data → Option Data → Option Data → Option Data → Option Data → Option Data → Members
slots col count down kind long name row =
    slot Col col (slot Count count (slot Down down (slot Kind kind (slot Length long (slot Name name (slot Row row no_members))))))

abbrev pub members_of : Section → Members
members_of s =
    slots (number_data s.col) (number_data s.count) (number_data s.down) (text_data s.kind) (number_data s.length) (text_data s.name) (number_data s.row)

-- a row and a column of the field lead to the place, which is on the screen
abbrev pub IsPlaced : Size → Members → ℕ → Type 0
IsPlaced size field place =
    (row : ℤ) × (col : ℤ) × (integer_at Row field ≡ Ok row) × (integer_at Col field ≡ Ok col) × (place_of size row col ≡ Ok place) × (place < cells_of size)

-- what a field says before it is looked at beside those before it
pub record IsSaid (version : Version) (size : Size) (field : Members) (name : List ℕ) (rows : Option Rows) (place long : ℕ) (kind : EntryKind) : Type 0 where
  pub keys : has_only (field_keys version) field ≡ true
  pub named : name_of field ≡ Ok name
  pub good : is_name name ≡ true
  pub counted : rows_of field ≡ Ok rows
  pub placed : IsPlaced size field place
  pub is_long : length_of size field ≡ Ok long
  pub is_kind : kind_of field ≡ Ok kind

-- the text behind the first header `field` has tables that stand for these entries, and nothing else
abbrev pub HasFields : Version → Size → List ℕ → List Declared → Type 0
HasFields version size text entries =
    (items : Items) × AreTables (key_text Field) text items × (are_tables items ≡ true) × (length (tables_in items) ≤ 1000) × (entries_of version size 0 [] (tables_in items) ≡ Ok entries)

-- what the keys at the top say beside the fields
pub record IsHead (top : Members) (head : Head) : Type 0 where
  pub keys : has_only top_keys top ≡ true
  pub is_version : version_of top ≡ Ok head.version
  pub is_mode : mode_of top ≡ Ok head.mode
  pub is_default : default_of head.mode top ≡ Ok head.default
  pub is_alternate : alternate_of head.mode head.default top ≡ Ok head.alternate
  pub is_screen : screen_of head.default head.alternate top ≡ Ok head.size

abbrev pub declared : Head → List Declared → Declaration
declared head entries =
    record { geometry = record { default = head.default; alternate = head.alternate; mode = head.mode }; size = head.size; entries = entries }
