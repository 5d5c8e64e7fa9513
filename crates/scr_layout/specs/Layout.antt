-- The layout that a text says, or its first refusal; and what holds of every layout.
use Rattle.std.specs.Prelude.{◌≡◌, ℕ, ◌+◌, ◌≤◌, ◌<◌, ◌⊎◌, nat_eq, bytes_eq, IsTrue, List, [], ◌∷◌, map, length, All, ok_or, Result, Ok}
use Rattle.std.specs.List.{IsDistinct}
use Rattle.ds_codec.specs.declared.size.Size.{Size}
use Rattle.ds_codec.specs.Geometry.{Sizes, IsGood, cells_of}
use Rattle.toml.specs.Data.{Members}
use Rattle.toml.specs.Parse.{parse_document}
use Rattle.scr_layout.specs.declared.fault.LayoutFault.{LayoutFault}
use Rattle.scr_layout.specs.declared.top.Version.{Version}
use Rattle.scr_layout.specs.Entry.{Declared, is_name}
use Rattle.scr_layout.specs.Fault.{not_toml}
use Rattle.scr_layout.specs.Results.{◌>>=◌, in_field}
use Rattle.scr_layout.specs.Values.{with_only}
use Rattle.scr_layout.specs.Top.{top_keys, version_of, mode_of, default_of, alternate_of, screen_of, fields_of}
use Rattle.scr_layout.specs.Field.{with_table}

-- what a layout says: the sizes of the terminal, the size of the named screen, and the entries in the order of the text
pub record Declaration : Type 0 where
  pub geometry : Sizes
  pub size : Size
  pub entries : List Declared

-- the entries, with those that the tables from the n-th on stand for behind them
unfoldable pub entries_of : Version → Size → ℕ → List Declared → List Members → Result (List Declared) LayoutFault
entries_of version size n before [] = Ok before
entries_of version size n before (table ∷ tables) = do
  more ← in_field n (with_table version size before table)
  entries_of version size (n + 1) more tables

-- the layout of a table: its keys, and then its fields, in the order in which they are told of
unfoldable pub declaration_of : Members → Result Declaration LayoutFault
declaration_of table = do
  top ← with_only top_keys table
  version ← version_of top
  mode ← mode_of top
  default ← default_of mode top
  alternate ← alternate_of mode default top
  size ← screen_of default alternate top
  fields ← fields_of top
  entries ← entries_of version size 0 [] fields
  Ok (record { geometry = record { default = default; alternate = alternate; mode = mode }; size = size; entries = entries })

-- the table that a text is, by TOML
abbrev pub table_of : List ℕ → Result Members LayoutFault
table_of text = ok_or (parse_document text) not_toml

-- the layout that a text says
abbrev pub layout_of : List ℕ → Result Declaration LayoutFault
layout_of text = table_of text >>= declaration_of

-- In every layout the named screen is one of the terminal's two. Each entry has a name, lies inside that screen, and is
-- 1 to all cells less 1 long. No name and no place comes twice, and there are at most 1,000 entries.
pub record IsLayout (layout : Declaration) : Type 0 where
  pub default : IsGood layout.geometry.mode layout.geometry.default
  pub alternate : IsGood layout.geometry.mode layout.geometry.alternate
  pub screen : (layout.size ≡ layout.geometry.default) ⊎ (layout.size ≡ layout.geometry.alternate)
  pub named : All (λ entry. IsTrue (is_name entry.name)) layout.entries
  pub inside : All (λ entry. entry.place < cells_of layout.size) layout.entries
  pub long : All (λ entry. (1 ≤ entry.length) × (entry.length < cells_of layout.size)) layout.entries
  pub names : IsDistinct bytes_eq (map (λ entry. entry.name) layout.entries)
  pub places : IsDistinct nat_eq (map (λ entry. entry.place) layout.entries)
  pub few : length layout.entries ≤ 1000
