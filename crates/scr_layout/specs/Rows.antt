-- The entries of one table: how many there are, how they are named, and where they begin.
use Rattle.std.specs.Prelude.{ℕ, zero, suc, ◌≤◌, ◌+◌, ◌*◌, Bool, not, ◌==◌, nat_le, nat_lt, bytes_eq, decimal, List, [], ◌∷◌, ◌++◌, map, length, Option, Some, None, ok_or, Result, Ok, Err}
use Rattle.std.specs.List.{list_any, list_all, range_with_len}
use Rattle.ds_codec.specs.declared.size.Size.{Size}
use Rattle.ds_codec.specs.Geometry.{cells_of}
use Rattle.toml.specs.Data.{Data, Members}
use Rattle.scr_layout.specs.declared.entry.Kind.{Kind as EntryKind}
use Rattle.scr_layout.specs.declared.fault.LayoutKey.{LayoutKey}
use Rattle.scr_layout.specs.declared.fault.LayoutKey.TheVariants.{Name, Row, Count, Down}
use Rattle.scr_layout.specs.declared.fault.LayoutFault.{LayoutFault}
use Rattle.scr_layout.specs.declared.fault.Why.TheVariants.{MissingKey, BadName, NameTwice, PlaceOutside, PlaceTwice, TooManyFields, BadCount}
use Rattle.scr_layout.specs.declared.rows.Rows.{Rows}
use Rattle.scr_layout.specs.Entry.{Declared, is_name}
use Rattle.scr_layout.specs.Fault.{at_key}
use Rattle.scr_layout.specs.Results.{◌>>=◌, tested}
use Rattle.scr_layout.specs.Values.{value_at, integer_of, from_one_to}

-- ---- how many

-- a number of 1 to 255
unfoldable pub number_of : LayoutKey → Data → Result ℕ LayoutFault
number_of key value = do
  number ← integer_of key value
  ok_or (from_one_to 255 number) (at_key key BadCount)

-- `down`: 1 where it is absent
abbrev pub down_or : Option Data → Result ℕ LayoutFault
down_or None = Ok 1
down_or (Some value) = number_of Down value

abbrev pub rows_or : Option Data → Option Data → Result (Option Rows) LayoutFault
rows_or None None = Ok None
rows_or None (Some down) = Err (at_key Count MissingKey)
rows_or (Some value) down = do
  count ← number_of Count value
  steps ← down_or down
  Ok (Some (record { count = count; down = steps }))

-- `count`, and with it `down`: none where both are absent
unfoldable pub rows_of : Members → Result (Option Rows) LayoutFault
rows_of field = rows_or (value_at Count field) (value_at Down field)

abbrev pub count_of : Option Rows → ℕ
count_of None = 1
count_of (Some rows) = rows.count

-- ---- their names

-- as `item-3`
abbrev pub numbered : List ℕ → ℕ → List ℕ
numbered name n = name ++ (45 ∷ decimal n)

-- the name itself where the table stands for one entry, and else with each number from 1 on
abbrev pub names_in : List ℕ → Option Rows → List (List ℕ)
names_in name None = name ∷ []
names_in name (Some rows) = map (numbered name) (range_with_len 1 rows.count)

-- an entry has this name
abbrev pub has_name : List ℕ → List Declared → Bool
has_name name before = list_any (λ entry. bytes_eq name entry.name) before

abbrev pub has_any : List (List ℕ) → List Declared → Bool
has_any names before = list_any (λ name. has_name name before) names

-- the key that asks for more than there is room for
abbrev pub asked_by : Option Rows → LayoutKey
asked_by None = Name
asked_by (Some rows) = Count

-- these names, if each is one and no entry before has it
unfoldable pub new_names : List Declared → List (List ℕ) → Result (List (List ℕ)) LayoutFault
new_names before names = do
  all ← tested (list_all is_name names) names (at_key Name BadName)
  tested (not (has_any all before)) all (at_key Name NameTwice)

-- the names of a table's entries, of which there are at most 1,000 with those before
unfoldable pub names_of : List Declared → List ℕ → Option Rows → Result (List (List ℕ)) LayoutFault
names_of before name rows = do
  few ← tested (nat_le (length before + count_of rows) 1000) rows (at_key (asked_by rows) TooManyFields)
  new_names before (names_in name few)

-- ---- their places

-- no screen is larger than 255 rows of 255 columns
abbrev pub IsSmall : Size → Type 0
IsSmall size = (cells_of size ≤ 65025) × (size.cols ≤ 255)

-- how many cells each begins behind the one before it
abbrev pub step_of : Size → Option Rows → ℕ
step_of size None = size.cols
step_of size (Some rows) = rows.down * size.cols

-- an entry stands at this place
abbrev pub has_place : ℕ → List Declared → Bool
has_place place before = list_any (λ entry. place == entry.place) before

-- the place, if it is on the screen and no entry before stands there
unfoldable pub free_at : Size → List Declared → ℕ → Result ℕ LayoutFault
free_at size before place = do
  inside ← tested (nat_lt place (cells_of size)) place (at_key Row PlaceOutside)
  tested (not (has_place inside before)) inside (at_key Row PlaceTwice)

-- so many places, one after the other
unfoldable pub are_free : Size → List Declared → ℕ → ℕ → ℕ → Result (Unit {0}) LayoutFault
are_free size before step place zero = Ok tt
are_free size before step place (suc more) = do
  here ← free_at size before place
  are_free size before step (here + step) more

-- the entries of these names, from a place on
abbrev pub entries_from : ℕ → ℕ → ℕ → EntryKind → List (List ℕ) → List Declared
entries_from step place length kind [] = []
entries_from step place length kind (name ∷ names) =
    record { name = name; place = place; length = length; kind = kind } ∷ entries_from step (place + step) length kind names
