-- Maps and their fields, as contracts see them.
use Rattle.std.specs.Prelude.{ℕ, List, Option}
use Rattle.ds_codec.specs.declared.size.Size.{Size}
use Rattle.bms_map.specs.declared.field.Looks.{Looks}
use Rattle.bms_map.specs.declared.place.Area.{Area}

-- the lines of the default screen
abbrev pub default_rows : ℕ
default_rows = 24

-- where a map lies on its screen, counted from 0, and how many lines and columns it has
pub record Ground : Type 0 where
  pub screen : Size
  pub top : ℕ
  pub left : ℕ
  pub lines : ℕ
  pub columns : ℕ

abbrev pub its_ground : Area → Ground
its_ground area =
    record { screen = area.screen; top = area.top; left = area.left; lines = area.extent.lines; columns = area.extent.columns }

-- the text of a later field of a group, and the position of its first character
pub record LaterText : Type 0 where
  pub cell : ℕ
  pub text : List ℕ

-- a field, a group of fields, or one occurrence of a field
pub record Shown : Type 0 where
  pub cell : ℕ
  pub length : ℕ
  pub attribute : ℕ
  pub pairs : List ℕ
  pub text : List ℕ
  pub later : List LaterText
  pub label : List ℕ
  pub occurrence : ℕ
  pub line : ℕ
  pub row : ℕ
  pub column : ℕ

-- a map, its fields in the order of their attributes on the screen
pub record Sheet : Type 0 where
  pub name : List ℕ
  pub line : ℕ
  pub area : Ground
  pub control : ℕ
  pub looks : Looks
  pub fields : List Shown
  pub cursor : Option ℕ
