-- Where fields start that may be typed into.
use Rattle.std.specs.Prelude.{ℕ, ◌+◌, Bool, ◌&&◌, List, length, unwrap_or}
use Rattle.ds_codec.specs.declared.cell.Cell.{Cell}
use Rattle.ds_screen.specs.Ring.{ring_on, ring_back, nearest}
use Rattle.ds_screen.specs.Picture.{cell_at}
use Rattle.ds_screen.specs.Fields.{is_character}
use Rattle.ds_screen.specs.Orders.{is_unprotected_attribute}

-- a field starts at a character behind an unprotected attribute
abbrev pub is_field_start : List Cell → ℕ → Bool
is_field_start cells p = is_character (cell_at cells p) && is_unprotected_attribute (cell_at cells (ring_back (length cells) p 1))

-- the field start at the least positive distance going on, p itself last; 0 where there is none
unfoldable pub start_ahead : List Cell → ℕ → ℕ
start_ahead cells p = unwrap_or (nearest (length cells) (λ d. ring_on (length cells) p (d + 1)) (is_field_start cells)) 0
