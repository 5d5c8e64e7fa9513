-- Ends of fields.
use Rattle.std.specs.Prelude.{ℕ, ◌+◌, ◌==◌, nat_lt, Bool, false, not, ◌||◌, List, length, Option, Some, None, if◌then◌else◌}
use Rattle.ds_codec.specs.declared.cell.Cell.{Cell}
use Rattle.ds_codec.specs.declared.cell.Cell.TheVariants.{Field, Char}
use Rattle.ds_screen.specs.Ring.{ring_on, ring_distance, greatest}
use Rattle.ds_screen.specs.Picture.{cell_at}
use Rattle.ds_screen.specs.Fields.{attribute_from}

-- neither a null nor a space
abbrev pub is_filled : Cell → Bool
is_filled (Field bits) = false
is_filled (Char character) = not ((character.code == 0x00) || (character.code == 0x40))

abbrev pub steps_to : List Cell → ℕ → Option ℕ → ℕ
steps_to cells start None = 0
steps_to cells start (Some stop) = ring_distance (length cells) start stop

-- the characters from a position on before the next attribute round the ring; none where there is no attribute
abbrev pub field_length : List Cell → ℕ → ℕ
field_length cells start = steps_to cells start (attribute_from cells start)

abbrev pub is_filled_at : List Cell → ℕ → ℕ → Bool
is_filled_at cells start d = is_filled (cell_at cells (ring_on (length cells) start d))

-- behind the last position that is filled, or there where it is the field's last one; the first where none is
abbrev pub end_steps : ℕ → Option ℕ → ℕ
end_steps count None = 0
end_steps count (Some d) = if nat_lt (d + 1) count then d + 1 else d

-- by the first position of the field
abbrev pub field_end : List Cell → ℕ → ℕ
field_end cells start =
    ring_on (length cells) start (end_steps (field_length cells start) (greatest (field_length cells start) (is_filled_at cells start)))
