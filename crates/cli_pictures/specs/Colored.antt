-- The text of `show` with the looks of its cells, by SGR sequences (ECMA-48).
use Rattle.std.specs.Prelude.{ℕ, ◌+◌, ◌-◌, ◌*◌, ◌%◌, Bool, not, ◌&&◌, ◌||◌, ◌==◌, List, [], ◌∷◌, ◌++◌, codes, if◌then◌else◌}
use Rattle.std.specs.List.{flat_map, range_with_len}
use Rattle.ds_screen.specs.Picture.{Picture, cell_at}
use Rattle.ds_screen.specs.Fields.{ruling_bits, is_character, is_open, fields_of}
use Rattle.ds_screen.specs.Shown.{printed_cell}
use Rattle.cli_commands.specs.Screen.{header_line, field_line}
use Rattle.cli_pictures.specs.declared.look.Look.{Look}
use Rattle.ds_codec.specs.Attribute.{is_intensified}

-- ---- looks

-- a character of an intensified field is bold, what may be typed over is underlined, the cursor's cell is reversed
abbrev pub look_at : Picture → ℕ → Look
look_at v p =
    record {
      bold = is_character (cell_at v.cells p) && is_intensified (ruling_bits v.cells p);
      underlined = is_open v.cells p;
      reversed = p == v.cursor;
    }

abbrev pub same : Bool → Bool → Bool
same a b = if a then b else not b

abbrev pub same_look : Look → Look → Bool
same_look a b = same a.bold b.bold && (same a.underlined b.underlined && same a.reversed b.reversed)

abbrev pub is_plain : Look → Bool
is_plain look = not (look.bold || (look.underlined || look.reversed))

-- ---- sequences

abbrev pub bold_code : Look → List ℕ
bold_code look = if look.bold then codes ";1" else []

abbrev pub underlined_code : Look → List ℕ
underlined_code look = if look.underlined then codes ";4" else []

abbrev pub reversed_code : Look → List ℕ
reversed_code look = if look.reversed then codes ";7" else []

-- the control ESC, a bracket, 0 for none, then 1 for bold, 4 for underlined, 7 for reversed
unfoldable pub begin_look : Look → List ℕ
begin_look look =
    0x1B ∷ 0x5B ∷ 0x30 ∷ (bold_code look ++ (underlined_code look ++ (reversed_code look ++ codes "m")))

unfoldable pub end_look : List ℕ
end_look = 0x1B ∷ 0x5B ∷ 0x30 ∷ 0x6D ∷ []

-- ---- cells in a row

-- the position begins a run of cells of one look in its row, or ends one
abbrev pub begins_run : Picture → ℕ → Bool
begins_run v p = (p % v.size.cols == 0) || not (same_look (look_at v (p - 1)) (look_at v p))

abbrev pub ends_run : Picture → ℕ → Bool
ends_run v p = ((p + 1) % v.size.cols == 0) || not (same_look (look_at v (p + 1)) (look_at v p))

unfoldable pub before_cell : Picture → ℕ → List ℕ
before_cell v p = if not (is_plain (look_at v p)) && begins_run v p then begin_look (look_at v p) else []

unfoldable pub behind_cell : Picture → ℕ → List ℕ
behind_cell v p = if not (is_plain (look_at v p)) && ends_run v p then end_look else []

-- what `show` prints of a cell, between the sequences that begin and end a run there
unfoldable pub colored_cell : Picture → ℕ → List ℕ
colored_cell v p = before_cell v p ++ (printed_cell v.cells p ∷ behind_cell v p)

unfoldable pub colored_column : Picture → ℕ → ℕ → List ℕ
colored_column v row column = colored_cell v (row * v.size.cols + column)

abbrev pub colored_row : Picture → ℕ → List ℕ
colored_row v row = flat_map (colored_column v row) (range_with_len 0 v.size.cols)

abbrev pub colored_line : Picture → ℕ → List ℕ
colored_line v row = codes "|" ++ (colored_row v row ++ codes "|\n")

abbrev pub colored_text : Picture → List ℕ
colored_text v =
    header_line v ++ (flat_map field_line (fields_of v.cells) ++ flat_map (colored_line v) (range_with_len 0 v.size.rows))
