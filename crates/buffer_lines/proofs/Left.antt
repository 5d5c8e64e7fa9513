-- A worked screen: the record that leaves it, read and shown, leaves exactly its cells and its cursor.
use Rattle.std.proofs.Common.{◌≡◌, false, true, List, [], ◌∷◌, Option, Some, None, refl}
use Rattle.std.specs.Prelude.{Result, Ok, Err}
use Rattle.ds_codec.specs.declared.cell.Cell.{Cell}
use Rattle.ds_codec.specs.declared.cell.Cell.TheVariants.{Field, Char}
use Rattle.ds_codec.specs.declared.refused.Refused.{Refused}
use Rattle.ds_codec.specs.declared.size.Size.{Size}
use Rattle.ds_codec.specs.declared.size.Mode.TheVariants.{Bits14}
use Rattle.ds_codec.specs.Address.{six_bit_code}
use Rattle.ds_codec.specs.Character.{glyph, is_text}
use Rattle.ds_codec.specs.Command.{command_code_at}
use Rattle.ds_codec.specs.Order.{order_code_at}
use Rattle.ds_codec.specs.Reading.{start_field_at, address_order_at, graphic_escape_at, front, read_of}
use Rattle.ds_codec.specs.Record.{Message}
use Rattle.ds_screen.specs.declared.lock.Lock.TheVariants.{Waiting, Free}
use Rattle.ds_screen.specs.declared.refused.Refused as screens
use Rattle.ds_screen.specs.Ring.{ring_on, greatest}
use Rattle.ds_screen.specs.Picture.{Picture, ruled}
use Rattle.ds_screen.specs.Orders.{single_cell, text_cell, effect_of, fault_of}
use Rattle.ds_screen.specs.Records.{acts, shown_of}
use Rattle.buffer_lines.specs.Record.{record_of}

abbrev two_by_two : Size
two_by_two = record { rows = 2; cols = 2 }

-- a terminal of these sizes, whatever it showed
abbrev before : Picture
before =
    record {
      geometry = record { default = record { rows = 24; cols = 80 }; alternate = two_by_two; mode = Bits14 };
      size = two_by_two;
      cells = Field 0 ∷ Char (glyph 0xC2 false) ∷ [];
      cursor = 1;
      lock = Waiting;
      aid = 0x7D;
    }

abbrev picture_in : Result Picture screens.Refused → Option Picture
picture_in (Ok v) = Some v
picture_in (Err e) = None

abbrev left_by : Result Message Refused → Option Picture
left_by (Ok message) = picture_in (shown_of before message.command message.orders)
left_by (Err e) = None

-- a modified field, A, a null, and a character of the alternate set; the cursor at the last row
abbrev its_cells : List Cell
its_cells = Field 0x31 ∷ Char (glyph 0xC1 false) ∷ Char (glyph 0 false) ∷ Char (glyph 0xAD true) ∷ []

leaves_its_cells : left_by (read_of Bits14 (record_of before.geometry its_cells 2)) ≡ Some (record before { cells = its_cells; cursor = 2; lock = Free; aid = 0x60 })
unfolding six_bit_code is_text order_code_at command_code_at start_field_at address_order_at graphic_escape_at front read_of shown_of acts effect_of fault_of ruled single_cell text_cell greatest ring_on
leaves_its_cells = refl
