-- Where a character goes that is put at the cursor, and what makes room for it in insert mode.
use Rattle.std.specs.Prelude.{ℕ, ◌-◌, Bool, true, false, ◌&&◌, nat_lt, nat_le, ◌==◌, List, length, Option, Some, None, option_map, if◌then◌else◌}
use Rattle.ds_codec.specs.declared.cell.Cell.{Cell}
use Rattle.ds_codec.specs.declared.cell.Cell.TheVariants.{Field, Char}
use Rattle.ds_screen.specs.Ring.{ring_on, ring_distance, least}
use Rattle.ds_screen.specs.Picture.{Picture, cell_at, ruled}
use Rattle.ds_screen.specs.Fields.{attribute_from, is_open}
use Rattle.ds_keys.specs.Moves.{row_end}

abbrev pub is_null : Cell → Bool
is_null (Field bits) = false
is_null (Char character) = character.code == 0

-- so many positions from c on belong to the rest of the cursor's field: those up to the next attribute, round the ring; in a
-- buffer without attributes those up to the end of the row, which is our own rule, as s3270 has it
abbrev pub rest_up_to : ℕ → ℕ → ℕ → Option ℕ → ℕ
rest_up_to n end c None = end - c
rest_up_to n end c (Some stop) = ring_distance n c stop

abbrev pub rest_of_field : List Cell → ℕ → ℕ → ℕ
rest_of_field cells cols c = rest_up_to (length cells) (row_end cols c) c (attribute_from cells c)

-- how many characters stand from c on before the first null of the rest of the field, where it has one
unfoldable pub before_null : List Cell → ℕ → ℕ → Option ℕ
before_null cells cols c = least (rest_of_field cells cols c) (λ d. is_null (cell_at cells (ring_on (length cells) c d)))

-- so many characters from c on move on by one: the position behind them, which held the null, holds the last of them
abbrev pub shifted_at : List Cell → ℕ → ℕ → ℕ → ℕ → Cell
shifted_at cells c count steps p =
    if nat_lt 0 steps && nat_le steps count then cell_at cells (ring_on (length cells) c (steps - 1)) else cell_at cells p

unfoldable pub shifted_cell : List Cell → ℕ → ℕ → ℕ → Cell
shifted_cell cells c count p = shifted_at cells c count (ring_distance (length cells) c p) p

abbrev pub shifted : Picture → ℕ → Picture
shifted v count = record v { cells = ruled (length v.cells) (shifted_cell v.cells v.cursor count) }

-- the picture in which a character can be put at the cursor, where it can: the cursor stands at an open character, and in
-- insert mode the rest of its field has a null
abbrev pub made_room : Bool → Picture → Option Picture
made_room false v = Some v
made_room true v = option_map (shifted v) (before_null v.cells v.size.cols v.cursor)

abbrev pub readied : Bool → Picture → Option Picture
readied inserts v = if is_open v.cells v.cursor then made_room inserts v else None
