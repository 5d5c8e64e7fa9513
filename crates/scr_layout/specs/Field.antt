-- The keys of a field of a layout, and the entries that it stands for.
use Rattle.std.specs.Prelude.{codes, ℕ, ℤ, ◌+◌, ◌-◌, ◌*◌, bytes_eq, if◌then◌else◌, List, [], ◌∷◌, ◌++◌, Option, Some, None, ok_or, Result, Ok, Err}
use Rattle.ds_codec.specs.declared.size.Size.{Size}
use Rattle.ds_codec.specs.Geometry.{cells_of}
use Rattle.toml.specs.Data.{Data, Members}
use Rattle.scr_layout.specs.declared.entry.Kind.{Kind as EntryKind}
use Rattle.scr_layout.specs.declared.entry.Kind.TheVariants.{Input, Fixed}
use Rattle.scr_layout.specs.declared.fault.LayoutKey.{LayoutKey}
use Rattle.scr_layout.specs.declared.fault.LayoutKey.TheVariants.{Name, Row, Col, Length, Kind, Count, Down}
use Rattle.scr_layout.specs.declared.fault.LayoutFault.{LayoutFault}
use Rattle.scr_layout.specs.declared.fault.Why.TheVariants.{WrongKind, BadName, PlaceOutside, BadLength}
use Rattle.scr_layout.specs.declared.top.Version.{Version}
use Rattle.scr_layout.specs.declared.top.Version.TheVariants.{One, Two}
use Rattle.scr_layout.specs.Entry.{Declared, is_name}
use Rattle.scr_layout.specs.Fault.{at_key}
use Rattle.scr_layout.specs.Results.{◌>>=◌, tested}
use Rattle.scr_layout.specs.Rows.{rows_of, count_of, names_of, step_of, are_free, entries_from}
use Rattle.scr_layout.specs.Values.{value_at, needed_at, text_of, integer_of, from_one_to, with_only}

-- the keys of a field; those of its rows came with version 2
abbrev pub field_keys : Version → List LayoutKey
field_keys One = Name ∷ Row ∷ Col ∷ Length ∷ Kind ∷ []
field_keys Two = Name ∷ Row ∷ Col ∷ Length ∷ Kind ∷ Count ∷ Down ∷ []

-- `name`
unfoldable pub name_of : Members → Result (List ℕ) LayoutFault
name_of field = do
  value ← needed_at Name field
  text ← text_of Name value
  tested (is_name text) text (at_key Name BadName)

-- `row`, `col`: an integer
unfoldable pub integer_at : LayoutKey → Members → Result ℤ LayoutFault
integer_at key field = needed_at key field >>= integer_of key

-- the place in this row and column, each counted from 1
unfoldable pub place_of : Size → ℤ → ℤ → Result ℕ LayoutFault
place_of size row col = do
  r ← ok_or (from_one_to size.rows row) (at_key Row PlaceOutside)
  c ← ok_or (from_one_to size.cols col) (at_key Col PlaceOutside)
  Ok ((r - 1) * size.cols + (c - 1))

-- `length`: 1 to the screen's cells less 1
unfoldable pub length_of : Size → Members → Result ℕ LayoutFault
length_of size field = do
  length ← integer_at Length field
  ok_or (from_one_to (cells_of size - 1) length) (at_key Length BadLength)

abbrev pub named_kind : List ℕ → Result EntryKind LayoutFault
named_kind word =
    if bytes_eq word (codes "input") then Ok Input
    else if bytes_eq word (codes "fixed") then Ok Fixed
    else Err (at_key Kind WrongKind)

abbrev pub kind_or : Option Data → Result EntryKind LayoutFault
kind_or None = Ok Input
kind_or (Some value) = text_of Kind value >>= named_kind

-- `kind`: `"input"` or `"fixed"`, input where it is absent
unfoldable pub kind_of : Members → Result EntryKind LayoutFault
kind_of field = kind_or (value_at Kind field)

-- the entries before, and behind them those that a table stands for on a screen of this size
unfoldable pub with_table : Version → Size → List Declared → Members → Result (List Declared) LayoutFault
with_table version size before table = do
  field ← with_only (field_keys version) table
  name ← name_of field
  rows ← rows_of field
  names ← names_of before name rows
  row ← integer_at Row field
  col ← integer_at Col field
  place ← place_of size row col
  free ← are_free size before (step_of size rows) place (count_of rows)
  length ← length_of size field
  kind ← kind_of field
  Ok (before ++ entries_from (step_of size rows) place length kind names)
