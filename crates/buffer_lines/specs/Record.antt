-- The record that leaves a screen.
use Rattle.std.specs.Prelude.{ℕ, Bool, ◌==◌, ◌&&◌, List, [], ◌∷◌, ◌++◌, if◌then◌else◌}
use Rattle.std.specs.List.{flat_map}
use Rattle.ds_codec.specs.declared.cell.Cell.{Cell}
use Rattle.ds_codec.specs.declared.cell.Cell.TheVariants as cells
use Rattle.ds_codec.specs.declared.order.OrderCode.TheVariants.{Sf, Sba, Ic}
use Rattle.ds_codec.specs.declared.size.Size.{Size}
use Rattle.ds_codec.specs.Address.{six_bit_code, written_address}
use Rattle.ds_codec.specs.Geometry.{Sizes, cells_of}
use Rattle.ds_codec.specs.Order.{code_of}
use Rattle.ds_codec.specs.Writing.{written_character}

abbrev pub is_usual : Size → Bool
is_usual size = size.rows == 24 && size.cols == 80

-- Erase/Write, or Erase/Write Alternate
abbrev pub erase_code : Size → ℕ
erase_code size = if is_usual size then 0xF5 else 0x7E

-- Start Field and the attribute, whose lowest bit is the MDT; a character, of the alternate set behind Graphic Escape
abbrev pub cell_bytes : Cell → List ℕ
cell_bytes (cells.Field attribute) = code_of Sf ∷ six_bit_code attribute ∷ []
cell_bytes (cells.Char character) = written_character character

-- Set Buffer Address and Insert Cursor
abbrev pub cursor_bytes : Sizes → ℕ → List ℕ
cursor_bytes sizes cursor = code_of Sba ∷ (written_address sizes.mode (cells_of sizes.alternate) cursor ++ code_of Ic ∷ [])

-- the command, a WCC that restores the keyboard, each cell, and the cursor
abbrev pub record_of : Sizes → List Cell → ℕ → List ℕ
record_of sizes cells cursor = erase_code sizes.alternate ∷ 0xC2 ∷ (flat_map cell_bytes cells ++ cursor_bytes sizes cursor)
