-- What is printed of a screen: all of it is our own rule.
use Rattle.std.specs.Prelude.{ℕ, Bool, false, ◌+◌, ◌-◌, ◌*◌, ◌&&◌, ◌==◌, nat_le, nat_lt, List, [], ◌∷◌, map, length, slice_index, codes, if◌then◌else◌}
use Rattle.std.specs.List.{range_with_len, list_all}
use Rattle.ds_codec.specs.declared.cell.Cell.{Cell}
use Rattle.ds_codec.specs.declared.cell.Cell.TheVariants.{Field, Char}
use Rattle.ds_codec.specs.Attribute.{is_hidden}
use Rattle.ds_codec.specs.Character.{Glyph}
use Rattle.ds_screen.specs.Picture.{Picture, cell_at}
use Rattle.ds_screen.specs.Fields.{ruling_bits}

-- characters that stand for codes one after the other, from a first code on
pub record Run : Type 0 where
  pub first : ℕ
  pub characters : List ℕ

abbrev pub run : ℕ → List ℕ → Run
run first characters = record { first = first; characters = characters }

-- the 95 characters that are printed
abbrev pub printed_runs : List Run
printed_runs =
    run 0x40 (codes " ") ∷ run 0x4B (codes ".<(+|&") ∷ run 0x5A (codes "!$*);") ∷ run 0x60 (codes "-/") ∷ run 0x6B (codes ",%_>?")
    ∷ run 0x79 (codes "`:#@'=\"") ∷ run 0x81 (codes "abcdefghi") ∷ run 0x91 (codes "jklmnopqr") ∷ run 0xA1 (codes "~stuvwxyz")
    ∷ run 0xB0 (codes "^") ∷ run 0xBA (codes "[]") ∷ run 0xC0 (codes "{ABCDEFGHI") ∷ run 0xD0 (codes "}JKLMNOPQR")
    ∷ run 0xE0 (codes "\\") ∷ run 0xE2 (codes "STUVWXYZ") ∷ run 0xF0 (codes "0123456789") ∷ []

-- the character of a code, '?' where it has none
abbrev pub printed_in : ℕ → List Run → ℕ
printed_in code [] = 63
printed_in code (r ∷ others) =
    if nat_le r.first code && nat_lt code (r.first + length r.characters) then slice_index r.characters (code - r.first)
    else printed_in code others

unfoldable pub printed_code : ℕ → ℕ
printed_code code = printed_in code printed_runs

-- what is printed for a character: one of the alternate set has no character
abbrev pub text_of : Glyph → ℕ
text_of character = if character.alt then 63 else printed_code character.code

-- what is printed of a cell, by the bits that rule it: '@' for an attribute, '.' for a null, '*' for another character
-- of a hidden field, else the character of its code
abbrev pub printed_under : ℕ → Cell → ℕ
printed_under bits (Field attribute) = 64
printed_under bits (Char character) =
    if character.code == 0 then 46 else (if is_hidden bits then 42 else text_of character)

-- a null, of which a full stop is printed whatever rules it
abbrev pub is_null : Cell → Bool
is_null (Field attribute) = false
is_null (Char character) = character.code == 0

-- so many positions from one on hold nulls alone
unfoldable pub are_nulls : List Cell → ℕ → ℕ → Bool
are_nulls cells from count = list_all is_null (map (cell_at cells) (range_with_len from count))

abbrev pub printed_cell : List Cell → ℕ → ℕ
printed_cell cells p = printed_under (ruling_bits cells p) (cell_at cells p)

-- a row of the screen, counted from 0
abbrev pub printed_row : Picture → ℕ → List ℕ
printed_row v row = map (printed_cell v.cells) (range_with_len (row * v.size.cols) v.size.cols)
