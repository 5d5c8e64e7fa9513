-- Small screens and the records that leave them, worked by hand.
use Rattle.std.proofs.Common.{◌≡◌, false, true, [], ◌∷◌, refl}
use Rattle.ds_codec.specs.declared.cell.Cell.TheVariants as cells
use Rattle.ds_codec.specs.Address.{six_bit_code}
use Rattle.ds_codec.specs.Character.{glyph}
use Rattle.buffer_lines.specs.Line.{row, status}
use Rattle.buffer_lines.specs.Screen.{Opened, at_first, ends, goes, step_by, stops}

two_rows : Opened
two_rows = record { cells = cells.Field 0x31 ∷ cells.Char (glyph 0xC1 false) ∷ cells.Char (glyph 0 false) ∷ cells.Char (glyph 0xAD true) ∷ []; rows = 2; cols = 2 }

-- Erase/Write Alternate, the keyboard restored; a field with its MDT, A, a null, an alternate character; the cursor at row 1, column 0
its_record : step_by two_rows (status (record { rows = 2; cols = 2; row = 1; col = 0 }))
    ≡ ends (record { size = record { rows = 2; cols = 2 }; bytes = 0x7E ∷ 0xC2 ∷ 0x1D ∷ 0xF1 ∷ 0xC1 ∷ 0x00 ∷ 0x08 ∷ 0xAD ∷ 0x11 ∷ 0x40 ∷ 0xC2 ∷ 0x13 ∷ [] }) at_first
unfolding two_rows six_bit_code
its_record = refl

-- other sizes than the rows', and a cursor below the last row
other_rows : step_by two_rows (status (record { rows = 3; cols = 2; row = 1; col = 0 })) ≡ stops
unfolding two_rows
other_rows = refl

cursor_below : step_by two_rows (status (record { rows = 2; cols = 2; row = 2; col = 0 })) ≡ stops
unfolding two_rows
cursor_below = refl

-- a row of another length
other_length : step_by two_rows (row (cells.Char (glyph 0xC1 false) ∷ [])) ≡ stops
unfolding two_rows
other_length = refl

-- a status line of another action
no_rows : step_by at_first (status (record { rows = 24; cols = 80; row = 0; col = 0 })) ≡ goes at_first
no_rows = refl
