-- What it is for a table to say a layout: what each key holds, in no order.
use Rattle.std.specs.Prelude.{◌≡◌, ◌⊎◌, ℕ, ◌+◌, ◌*◌, ◌<◌, ◌≤◌, pos, codes, IsTrue, List, [], ◌++◌, map, Option, Some, None}
use Rattle.std.specs.List.{range_with_len}
use Rattle.ds_codec.specs.declared.size.Size.{Size}
use Rattle.ds_codec.specs.declared.size.Mode.{Mode}
use Rattle.ds_codec.specs.declared.size.Mode.TheVariants.{Bits14, Bits16}
use Rattle.ds_codec.specs.Geometry.{Sizes}
use Rattle.toml.specs.Parse.{parse_document}
use Rattle.toml.specs.Data.{string, integer, array, table, Items, no_items, item, Members}
use Rattle.scr_layout.specs.declared.entry.Kind.{Kind as EntryKind}
use Rattle.scr_layout.specs.declared.entry.Kind.TheVariants.{Input, Fixed}
use Rattle.scr_layout.specs.declared.fault.LayoutKey.{LayoutKey}
use Rattle.scr_layout.specs.declared.fault.LayoutKey.TheVariants.{Version, Addresses, Default, Alternate, Screen, Field, Name, Row, Col, Length, Kind, Count, Down}
use Rattle.scr_layout.specs.declared.rows.Rows.{Rows}
use Rattle.scr_layout.specs.declared.top.Version.{Version as Keys}
use Rattle.scr_layout.specs.declared.top.Version.TheVariants.{One, Two}
use Rattle.scr_layout.specs.Entry.{Declared, is_name}
use Rattle.scr_layout.specs.Field.{field_keys}
use Rattle.scr_layout.specs.Layout.{Declaration, IsLayout}
use Rattle.scr_layout.specs.Rows.{count_of, numbered}
use Rattle.scr_layout.specs.SizeText.{size_text}
use Rattle.scr_layout.specs.Top.{top_keys}
use Rattle.scr_layout.specs.Values.{value_at, has_only}

abbrev pub IsAbsent : LayoutKey → Members → Type 0
IsAbsent key top = value_at key top ≡ None

abbrev pub HasText : LayoutKey → List ℕ → Members → Type 0
HasText key text top = value_at key top ≡ Some (string text)

abbrev pub HasNumber : LayoutKey → ℕ → Members → Type 0
HasNumber key n top = value_at key top ≡ Some (integer (pos n))

-- which keys a field may have
abbrev pub SaysVersion : Members → Keys → Type 0
SaysVersion top One = IsAbsent Version top ⊎ HasNumber Version 1 top
SaysVersion top Two = HasNumber Version 2 top

-- the number of an address's bits
abbrev pub SaysMode : Members → Mode → Type 0
SaysMode top Bits14 = IsAbsent Addresses top ⊎ HasNumber Addresses 14 top
SaysMode top Bits16 = HasNumber Addresses 16 top

-- the key spells the size, or is absent where the size is this one
abbrev pub SaysSize : LayoutKey → Size → Members → Size → Type 0
SaysSize key absent top size = (IsAbsent key top × (size ≡ absent)) ⊎ HasText key (size_text size) top

-- the size of the named screen
abbrev pub SaysScreen : Members → Sizes → Size → Type 0
SaysScreen top geometry size =
    ((IsAbsent Screen top ⊎ HasText Screen (codes "default") top) × (size ≡ geometry.default))
    ⊎ (HasText Screen (codes "alternate") top × (size ≡ geometry.alternate))

abbrev pub SaysKind : Members → EntryKind → Type 0
SaysKind field Input = IsAbsent Kind field ⊎ HasText Kind (codes "input") field
SaysKind field Fixed = HasText Kind (codes "fixed") field

abbrev pub SaysDown : Members → ℕ → Type 0
SaysDown field down = (IsAbsent Down field × (down ≡ 1)) ⊎ HasNumber Down down field

-- `count` and `down`, or neither
abbrev pub SaysRows : Members → Option Rows → Type 0
SaysRows field None = IsAbsent Count field × IsAbsent Down field
SaysRows field (Some rows) = HasNumber Count rows.count field × SaysDown field rows.down
    × (1 ≤ rows.count) × (rows.count ≤ 255) × (1 ≤ rows.down) × (rows.down ≤ 255)

-- the i-th of the entries that a table stands for; i, row and column are counted from 0
abbrev pub entry_in : Size → List ℕ → ℕ → ℕ → ℕ → EntryKind → Option Rows → ℕ → Declared
entry_in size name row col length kind None i = record { name = name; place = row * size.cols + col; length = length; kind = kind }
entry_in size name row col length kind (Some rows) i =
    record { name = numbered name (i + 1); place = (row + i * rows.down) * size.cols + col; length = length; kind = kind }

-- the table of a field says these entries; its row and column are counted from 1
pub record SaysBlock (version : Keys) (size : Size) (field : Members) (block : List Declared) : Type 0 where
  pub name : List ℕ
  pub row : ℕ
  pub col : ℕ
  pub length : ℕ
  pub kind : EntryKind
  pub rows : Option Rows
  pub keys : IsTrue (has_only (field_keys version) field)
  pub is_named : HasText Name name field × IsTrue (is_name name)
  pub is_placed : HasNumber Row (row + 1) field × HasNumber Col (col + 1) field × (row < size.rows) × (col < size.cols)
  pub is_long : HasNumber Length length field
  pub is_kind : SaysKind field kind
  pub has_rows : SaysRows field rows
  pub entries : block ≡ map (entry_in size name row col length kind rows) (range_with_len 0 (count_of rows))

-- the items are tables that say the entries, one table after the other
abbrev pub SayEntries : Keys → Size → Items → List Declared → Type 0
SayEntries version size no_items entries = entries ≡ []
SayEntries version size (item value rest) entries =
    (field : Members) × (block : List Declared) × (others : List Declared) × (value ≡ table field) × (entries ≡ block ++ others)
    × SaysBlock version size field block × SayEntries version size rest others

abbrev pub SaysFields : Keys → Members → Size → List Declared → Type 0
SaysFields version top size entries =
    (IsAbsent Field top × (entries ≡ [])) ⊎ ((items : Items) × (value_at Field top ≡ Some (array items)) × SayEntries version size items entries)

-- the table says the layout, which is one
pub record Says (top : Members) (layout : Declaration) : Type 0 where
  pub keys : IsTrue (has_only top_keys top)
  pub version : Keys
  pub is_version : SaysVersion top version
  pub mode : SaysMode top layout.geometry.mode
  pub default : SaysSize Default (record { rows = 24; cols = 80 }) top layout.geometry.default
  pub alternate : SaysSize Alternate layout.geometry.default top layout.geometry.alternate
  pub screen : SaysScreen top layout.geometry layout.size
  pub fields : SaysFields version top layout.size layout.entries
  pub is_one : IsLayout layout

-- the text says the layout, by the table that TOML reads
abbrev pub TextSays : List ℕ → Declaration → Type 0
TextSays text layout = (top : Members) × (parse_document text ≡ Some top) × Says top layout
