-- What each order does: a rule says the cell at every position afterwards.
use Rattle.std.specs.Prelude.{◌≡◌, ℕ, ◌+◌, ◌-◌, ◌%◌, Bool, true, false, not, ◌&&◌, ◌||◌, ◌==◌, nat_lt, nat_le, List, length, Option, Some, None, option_map, unwrap_or, slice_index, if◌then◌else◌}
use Rattle.ds_codec.specs.declared.cell.Cell.{Cell}
use Rattle.ds_codec.specs.declared.cell.Cell.TheVariants.{Field, Char}
use Rattle.ds_codec.specs.Attribute.{is_protected}
use Rattle.ds_codec.specs.Character.{Glyph, glyph}
use Rattle.ds_codec.specs.Order.{Item, text, start_field, start_field_extended, set_buffer_address, set_attribute, modify_field, insert_cursor, program_tab, repeat_to_address, erase_unprotected_to_address, graphic_escape, last_attribute}
use Rattle.ds_screen.specs.declared.refused.Why.{Why}
use Rattle.ds_screen.specs.declared.refused.Why.TheVariants.{AddressOutside, NoFieldHere}
use Rattle.ds_screen.specs.Ring.{ring_on, ring_distance, least, greatest}
use Rattle.ds_screen.specs.Picture.{blank, cell_at, ruled}
use Rattle.ds_screen.specs.Fields.{is_attribute, bits_of, is_open}

-- what orders work on: the cells, the cursor, the buffer address, and whether a Program Tab that comes next nulls
-- what it passes
pub record Writing : Type 0 where
  pub cells : List Cell
  pub cursor : ℕ
  pub address : ℕ
  pub nulling : Bool

-- what a position holds of a run: the character of the byte that was written there last, or what it held
abbrev pub byte_cell : List Cell → List ℕ → ℕ → Option ℕ → Cell
byte_cell cells run p None = cell_at cells p
byte_cell cells run p (Some i) = Char (glyph (slice_index run i) false)

-- text from b on: a position holds the last byte i that falls on it, counted round the ring
unfoldable pub text_cell : List Cell → ℕ → List ℕ → ℕ → Cell
text_cell cells b run p = byte_cell cells run p (greatest (length run) (λ i. (b + i) % length cells == p))

-- one cell, at b
unfoldable pub single_cell : List Cell → ℕ → Cell → ℕ → Cell
single_cell cells b cell p = if p == b then cell else cell_at cells p

-- the positions from b up to the stop, which is not one of them; all of them where the stop is b
abbrev pub is_reached : ℕ → ℕ → ℕ → ℕ → Bool
is_reached n b stop p = b == stop || nat_lt (ring_distance n b p) (ring_distance n b stop)

unfoldable pub repeated_cell : List Cell → ℕ → ℕ → Glyph → ℕ → Cell
repeated_cell cells b stop character p = if is_reached (length cells) b stop p then Char character else cell_at cells p

-- open characters of the same positions become nulls, attributes stay
unfoldable pub erased_cell : List Cell → ℕ → ℕ → ℕ → Cell
erased_cell cells b stop p = if is_reached (length cells) b stop p && is_open cells p then blank else cell_at cells p

-- the positions from b up to the stop become nulls, not going round
unfoldable pub nulled_cell : List Cell → ℕ → ℕ → ℕ → Cell
nulled_cell cells b stop p = if nat_le b p && nat_lt p stop then blank else cell_at cells p

-- the least position from b to the last one that passes the test
unfoldable pub first_from : (Cell → Bool) → List Cell → ℕ → Option ℕ
first_from test cells b = option_map (λ d. b + d) (least (length cells - b) (λ d. test (cell_at cells (b + d))))

abbrev pub is_unprotected_attribute : Cell → Bool
is_unprotected_attribute (Field bits) = not (is_protected bits)
is_unprotected_attribute (Char character) = false

-- the position behind the place that a search found, round the ring; 0 where it found none
abbrev pub behind : ℕ → Option ℕ → ℕ
behind n None = 0
behind n (Some u) = ring_on n u 1

-- where a tab from b leads: behind the first unprotected attribute, never round the ring to look for one
abbrev pub tab_stop : List Cell → ℕ → ℕ
tab_stop cells b = behind (length cells) (first_from is_unprotected_attribute cells b)

-- Program Tab, by whether it nulls and by the first attribute from the buffer address on: it nulls up to that
-- attribute, or to the end, where it stops and goes on nulling. When it nulls, how far, and what it does at the end
-- are our own rules.
abbrev pub tabbed : Writing → Bool → Option ℕ → Writing
tabbed w false attribute = record w { address = tab_stop w.cells w.address; nulling = false }
tabbed w true (Some e) =
    record w { cells = ruled (length w.cells) (nulled_cell w.cells w.address e); address = tab_stop w.cells w.address; nulling = false }
tabbed w true None =
    record w { cells = ruled (length w.cells) (nulled_cell w.cells w.address (length w.cells)); address = 0; nulling = true }

-- one cell at the buffer address, which goes on by one
abbrev pub after_storing : Writing → Cell → Bool → Writing
after_storing w cell nulling =
    record w { cells = ruled (length w.cells) (single_cell w.cells w.address cell); address = ring_on (length w.cells) w.address 1; nulling = nulling }

-- What an order leaves. That Program Tab nulls right after text, after a graphic escape as after text, and after one
-- that ran to the end, and after no other order, is our own rule; so is that Set Attribute leaves the cells as they are.
unfoldable pub effect_of : Item → Writing → Writing
effect_of (text run) w =
    record w { cells = ruled (length w.cells) (text_cell w.cells w.address run); address = (w.address + length run) % length w.cells; nulling = true }
effect_of (start_field attribute) w = after_storing w (Field attribute) false
effect_of (start_field_extended pairs) w = after_storing w (Field (unwrap_or (last_attribute pairs) 0)) false
effect_of (set_buffer_address address) w = record w { address = address; nulling = false }
effect_of (set_attribute kind value) w = record w { nulling = false }
effect_of (modify_field pairs) w =
    after_storing w (Field (unwrap_or (last_attribute pairs) (bits_of (cell_at w.cells w.address)))) false
effect_of insert_cursor w = record w { cursor = w.address; nulling = false }
effect_of program_tab w = tabbed w w.nulling (first_from is_attribute w.cells w.address)
effect_of (repeat_to_address stop character) w =
    record w { cells = ruled (length w.cells) (repeated_cell w.cells w.address stop character); address = stop; nulling = false }
effect_of (erase_unprotected_to_address stop) w =
    record w { cells = ruled (length w.cells) (erased_cell w.cells w.address stop); address = stop; nulling = false }
effect_of (graphic_escape code) w = after_storing w (Char (glyph code true)) true

-- an address must be that of a position
abbrev pub outside_of : ℕ → ℕ → Option Why
outside_of n address = if nat_lt address n then None else Some AddressOutside

-- why an order cannot be done, if it cannot
unfoldable pub fault_of : Item → Writing → Option Why
fault_of (set_buffer_address address) w = outside_of (length w.cells) address
fault_of (repeat_to_address stop character) w = outside_of (length w.cells) stop
fault_of (erase_unprotected_to_address stop) w = outside_of (length w.cells) stop
fault_of (modify_field pairs) w = if is_attribute (cell_at w.cells w.address) then None else Some NoFieldHere
fault_of order w = None

-- an order leads from one state to another
abbrev pub OrderActs : Item → Writing → Writing → Type 0
OrderActs order before after = (fault_of order before ≡ None) × (after ≡ effect_of order before)
