-- Layouts under the names of their files, and the one that a screen is taken for.
use Rattle.std.specs.Prelude.{◌≡◌, ◌⊎◌, ℕ, ◌-◌, ◌==◌, Bool, true, false, ◌&&◌, ◌||◌, nat_lt, List, [], ◌∷◌, ◌++◌, length, Option, Some, None, Result, Ok, Err, if◌then◌else◌}
use Rattle.std.specs.List.{list_all}
use Rattle.ds_codec.specs.declared.cell.Cell.{Cell}
use Rattle.ds_codec.specs.Geometry.{Sizes}
use Rattle.ds_screen.specs.Picture.{Picture, cell_at}
use Rattle.ds_screen.specs.Fields.{is_attribute}
use Rattle.scr_layout.specs.Entry.{Declared}
use Rattle.scr_layout.specs.Layout.{Declaration}
use Rattle.ds_codec.specs.Same.{same_size}
use Rattle.script_checks.specs.declared.read.LayoutRefusal.{LayoutRefusal}

-- a layout, and the bytes of its file's name
pub record Named : Type 0 where
  pub name : List ℕ
  pub layout : Declaration

-- layouts for a device of these sizes, in the order in which they were added
pub record Listed : Type 0 where
  pub geometry : Sizes
  pub all : List Named

abbrev pub added : Result Declaration LayoutRefusal → Result (Unit {0}) LayoutRefusal
added (Ok layout) = Ok tt
added (Err refusal) = Err refusal

abbrev pub listed_with : Listed → List ℕ → Result Declaration LayoutRefusal → Listed
listed_with listed name (Ok layout) = record listed { all = listed.all ++ record { name = name; layout = layout } ∷ [] }
listed_with listed name (Err refusal) = listed

-- ---- matching

-- the position before a place, round the screen's begin
abbrev pub place_before : ℕ → ℕ → ℕ
place_before count place = if place == 0 then count - 1 else place - 1

-- an attribute stands right before the entry's place
abbrev pub begins_field : List Cell → Declared → Bool
begins_field cells entry = is_attribute (cell_at cells (place_before (length cells) entry.place))

-- the screen has the layout's size, and a field begins at each entry
abbrev pub matches : Picture → Declaration → Bool
matches v layout = same_size v.size layout.size && list_all (begins_field v.cells) layout.entries

-- ---- of several

-- a name is the other, or stands before it in the order of their bytes
abbrev pub comes_first : List ℕ → List ℕ → Bool
comes_first [] other = true
comes_first (byte ∷ bytes) [] = false
comes_first (byte ∷ bytes) (other ∷ others) = if byte == other then comes_first bytes others else nat_lt byte other

-- it has more entries, or as many and its name comes first
abbrev pub precedes : Named → Named → Bool
precedes one other =
    nat_lt (length other.layout.entries) (length one.layout.entries)
    || ((length one.layout.entries == length other.layout.entries) && comes_first one.name other.name)

abbrev pub IsAmong : Named → List Named → Type 0
IsAmong one [] = ⊥
IsAmong one (other ∷ others) = (other ≡ one) ⊎ IsAmong one others

-- The layout that a screen is taken for: it matches, and of those that do it is the one with the most entries; of several with as
-- many the first, by name.
pub record IsChosen (v : Picture) (all : List Named) (one : Named) : Type 0 where
  pub among : IsAmong one all
  pub good : matches v one.layout ≡ true
  pub first : (other : Named) → IsAmong other all → matches v other.layout ≡ true → precedes one other ≡ true

-- there is one exactly where one of them matches
abbrev pub Chooses : Picture → List Named → Option Named → Type 0
Chooses v all None = (one : Named) → IsAmong one all → matches v one.layout ≡ false
Chooses v all (Some one) = IsChosen v all one

-- ---- as it is found

abbrev pub better : Option Named → Named → Named
better None one = one
better (Some best) one = if precedes best one then best else one

abbrev pub better_of : Picture → Option Named → Named → Option Named
better_of v best one = if matches v one.layout then Some (better best one) else best

abbrev pub best_after : Picture → Option Named → List Named → Option Named
best_after v best [] = best
best_after v best (one ∷ others) = best_after v (better_of v best one) others

abbrev pub chosen : Picture → List Named → Option Named
chosen v all = best_after v None all

-- ---- laws

-- what is found is that layout
abbrev pub IsFound : Type 0
IsFound = (v : Picture) (all : List Named) → Chooses v all (chosen v all)

-- no name stands for two layouts
abbrev pub HaveNames : List Named → Type 0
HaveNames all = (one other : Named) → IsAmong one all → IsAmong other all → one.name ≡ other.name → one ≡ other

-- in whatever order the same layouts were added, the same one is found
abbrev pub OrderIsNothing : Type 0
OrderIsNothing =
    (v : Picture) (all others : List Named) → HaveNames all
    → ((one : Named) → IsAmong one all → IsAmong one others) → ((one : Named) → IsAmong one others → IsAmong one all)
    → chosen v all ≡ chosen v others
