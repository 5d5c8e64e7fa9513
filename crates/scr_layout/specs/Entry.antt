-- A field of a layout, and what may be its name.
use Rattle.std.specs.Prelude.{ℕ, Bool, ◌&&◌, ◌||◌, ◌==◌, nat_le, List, length}
use Rattle.std.specs.List.{list_all}
use Rattle.scr_layout.specs.declared.entry.Kind.{Kind}

-- an entry without where its name lies in memory
pub record Declared : Type 0 where
  pub name : List ℕ
  pub place : ℕ
  pub length : ℕ
  pub kind : Kind

-- a letter A-Z or a-z, a digit, `-` or `_`
abbrev pub is_name_byte : ℕ → Bool
is_name_byte c =
    nat_le 65 c && nat_le c 90 || nat_le 97 c && nat_le c 122 || nat_le 48 c && nat_le c 57 || c == 45 || c == 95

-- 1 to 32 of these
abbrev pub is_name : List ℕ → Bool
is_name text = nat_le 1 (length text) && nat_le (length text) 32 && list_all is_name_byte text
