-- Characters that are typed, and the nulls before them that become spaces.
use Rattle.std.specs.Prelude.{ℕ, ◌+◌, ◌-◌, ◌%◌, ◌==◌, Bool, true, false, not, ◌&&◌, ◌||◌, is_some, List, [], ◌∷◌, ◌++◌, map, length, Option, Some, None, unwrap_or, if◌then◌else◌}
use Rattle.std.specs.List.{range_with_len}
use Rattle.ds_codec.specs.declared.cell.Cell.{Cell}
use Rattle.ds_codec.specs.declared.cell.Cell.TheVariants.{Field, Char}
use Rattle.ds_screen.specs.Ring.{ring_on, ring_back, least, greatest}
use Rattle.ds_screen.specs.Picture.{Picture, cell_at}
use Rattle.ds_screen.specs.Fields.{is_attribute, is_open, attribute_before}
use Rattle.ds_keys.specs.declared.key.Key.{Key}
use Rattle.ds_keys.specs.declared.key.Key.TheVariants.{Typed, Left, Right}
use Rattle.script_keys.specs.declared.run.Run.{Run}
use Rattle.script_keys.specs.Runs.{once, repeated}

abbrev pub is_null : Cell → Bool
is_null (Field bits) = false
is_null (Char character) = character.code == 0

-- the cell that stands so many back on the cursor's row or before it is no null
abbrev pub is_used_at : List Cell → ℕ → ℕ → Bool
is_used_at cells p d = not (is_null (cell_at cells (p - d)))

abbrev pub is_attribute_at : List Cell → ℕ → Option ℕ → Bool
is_attribute_at cells p None = true
is_attribute_at cells p (Some d) = is_attribute (cell_at cells (p - d))

-- going back from the end of a row, there are nulls alone up to its begin or to an attribute
unfoldable pub is_empty_row : List Cell → ℕ → ℕ → Bool
is_empty_row cells cols p = is_attribute_at cells p (least cols (is_used_at cells p))

-- the last position of a row
abbrev pub is_row_end : ℕ → ℕ → Bool
is_row_end cols p = p % cols + 1 == cols

-- An attribute ends what is filled, and so does the end of a row before that is empty.
abbrev pub ends_fill : List Cell → ℕ → ℕ → Bool
ends_fill cells cols p = is_attribute (cell_at cells p) || (is_row_end cols p && is_empty_row cells cols p)

-- how many positions before the cursor are filled where they hold nulls
unfoldable pub fill_reach : List Cell → ℕ → ℕ → ℕ
fill_reach cells cols c = unwrap_or (least (length cells) (λ d. ends_fill cells cols (ring_back (length cells) c (d + 1)))) 0

abbrev pub is_null_back : List Cell → ℕ → ℕ → Bool
is_null_back cells c d = is_null (cell_at cells (ring_back (length cells) c (d + 1)))

-- the farthest null of those, by the positions between it and the cursor
abbrev pub first_null : List Cell → ℕ → ℕ → Option ℕ
first_null cells cols c = greatest (fill_reach cells cols c) (is_null_back cells c)

-- a space for a null, and a step over anything else
abbrev pub fill_key : Cell → Key
fill_key cell = if is_null cell then Typed 0x40 else Right

abbrev pub fill_run : List Cell → ℕ → ℕ → Run
fill_run cells start d = once (fill_key (cell_at cells (ring_on (length cells) start d)))

-- so many positions from one on
abbrev pub filled_from : List Cell → ℕ → ℕ → List Run
filled_from cells start count = map (fill_run cells start) (range_with_len 0 count)

-- back to the farthest null, and then on to the cursor
abbrev pub fill_to : List Cell → ℕ → Option ℕ → List Run
fill_to cells c None = []
fill_to cells c (Some d) = repeated Left (d + 1) ∷ filled_from cells (ring_back (length cells) c (d + 1)) (d + 1)

-- where the cursor can be typed at, in a field
abbrev pub is_in_field : Picture → Bool
is_in_field v = is_open v.cells v.cursor && is_some (attribute_before v.cells v.cursor)

abbrev pub fill_runs : Picture → List Run
fill_runs v = if is_in_field v then fill_to v.cells v.cursor (first_null v.cells v.size.cols v.cursor) else []

-- a character that is typed, where the nulls before it become spaces or stay
abbrev pub typed_runs : Picture → Bool → ℕ → List Run
typed_runs v true code = fill_runs v ++ once (Typed code) ∷ []
typed_runs v false code = once (Typed code) ∷ []
