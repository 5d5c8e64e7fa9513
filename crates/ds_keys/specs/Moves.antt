-- Where keys put the cursor, by least distance round the ring.
use Rattle.std.specs.Prelude.{ℕ, ◌+◌, ◌-◌, ◌%◌, Bool, true, nat_lt, List, length, Option, Some, None, unwrap_or, if◌then◌else◌}
use Rattle.ds_codec.specs.declared.cell.Cell.{Cell}
use Rattle.ds_codec.specs.declared.cell.Cell.TheVariants.{Field, Char}
use Rattle.ds_codec.specs.Attribute.{is_auto_skip}
use Rattle.ds_screen.specs.Ring.{ring_on, ring_back, nearest}
use Rattle.ds_screen.specs.Picture.{cell_at}
use Rattle.ds_screen.specs.Fields.{is_character}
pub use Rattle.ds_screen.specs.Starts.{is_field_start}
unfoldable pub use Rattle.ds_screen.specs.Starts.{start_ahead}

-- the field start at the least positive distance going back from p, p itself last; 0 where there is none
unfoldable pub start_back : List Cell → ℕ → ℕ
start_back cells p = unwrap_or (nearest (length cells) (λ d. ring_back (length cells) p (d + 1)) (is_field_start cells)) 0

-- a cursor that moves on by itself stops at a character or at an auto-skip attribute
abbrev pub stops_cursor : Cell → Bool
stops_cursor (Field bits) = is_auto_skip bits
stops_cursor (Char character) = true

-- from an auto-skip attribute it goes to the field start ahead
abbrev pub settled_at : List Cell → Option ℕ → ℕ
settled_at cells None = 0
settled_at cells (Some p) = if is_character (cell_at cells p) then p else start_ahead cells p

-- where the cursor settles that moves on from p by itself
unfoldable pub settled : List Cell → ℕ → ℕ
settled cells p = settled_at cells (nearest (length cells) (ring_on (length cells) p) (λ q. stops_cursor (cell_at cells q)))

-- the position behind the last one of p's row
abbrev pub row_end : ℕ → ℕ → ℕ
row_end cols p = p - p % cols + cols

-- the first position of the row after p's, the first row after the last one
unfoldable pub next_row : ℕ → ℕ → ℕ → ℕ
next_row n cols p = if nat_lt (row_end cols p) n then row_end cols p else 0
