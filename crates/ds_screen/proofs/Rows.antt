-- Worked rows, computed: the definitions say what the data stream's book says.
use Rattle.std.proofs.Common.{◌≡◌, ℕ, List, [], ◌∷◌, false, Ok, Err, replicate, refl}
use Rattle.ds_codec.specs.declared.cell.Cell.{Cell}
use Rattle.ds_codec.specs.declared.cell.Cell.TheVariants.{Field, Char}
use Rattle.ds_codec.specs.declared.size.Mode.TheVariants.{Bits14}
use Rattle.ds_codec.specs.declared.command.Command.TheVariants.{Write, EraseWrite, EraseAllUnprotected, ReadModified}
use Rattle.ds_codec.specs.Character.{glyph}
use Rattle.ds_codec.specs.Order.{Item, Site, text, start_field, start_field_extended, set_buffer_address, modify_field, insert_cursor, program_tab, repeat_to_address, erase_unprotected_to_address}
use Rattle.ds_screen.specs.declared.lock.Lock.TheVariants.{Waiting, Free}
use Rattle.ds_screen.specs.declared.refused.Why.TheVariants.{AddressOutside, NoFieldHere, NotAWrite}
use Rattle.ds_screen.specs.Ring.{ring_on, ring_back, ring_distance, least, greatest}
use Rattle.ds_screen.specs.Picture.{Picture, blank, ruled}
use Rattle.ds_screen.specs.Fields.{attribute_before, first_open, span_of, fields_of}
use Rattle.ds_screen.specs.Orders.{text_cell, single_cell, repeated_cell, erased_cell, nulled_cell, first_from, effect_of, fault_of}
use Rattle.ds_screen.specs.Records.{acts, cleared_cell, shown_of}

abbrev site : ℕ → Item → Site
site at order = record { at = at; order = order }

abbrev new : ℕ → ℕ → Picture
new rows cols =
    record {
      geometry = record { default = record { rows = rows; cols = cols }; alternate = record { rows = rows; cols = cols }; mode = Bits14 };
      size = record { rows = rows; cols = cols };
      cells = [];
      cursor = 0;
      lock = Waiting;
      aid = 0x60;
    }

abbrev plain : ℕ → Cell
plain code = Char (glyph code false)

-- three fields: protected at 0, an input of three cells at 2, a skipped one at 6
abbrev form : List Site
form =
    site 2 (start_field 0x20) ∷ site 4 (text (0xC1 ∷ [])) ∷ site 5 (start_field 0x00) ∷ site 7 insert_cursor
    ∷ site 8 (set_buffer_address 6) ∷ site 11 (start_field 0x30) ∷ []

abbrev shown_form : Picture
shown_form =
    record (new 2 10) {
      cells = Field 0x20 ∷ plain 0xC1 ∷ Field 0 ∷ blank ∷ blank ∷ blank ∷ Field 0x30 ∷ replicate 13 blank;
      cursor = 3;
      lock = Free;
    }

form_shows : shown_of (new 2 10) (EraseWrite 0xC2) form ≡ Ok shown_form
unfolding shown_of acts effect_of fault_of ruled single_cell text_cell greatest ring_on
form_shows = refl

form_fields : fields_of (shown_form.cells) ≡
    record { at = 0; attr = 0x20; place = 1; length = 1 } ∷ record { at = 2; attr = 0; place = 3; length = 3 }
    ∷ record { at = 6; attr = 0x30; place = 7; length = 13 } ∷ []
unfolding span_of attribute_before least ring_on ring_back
form_fields = refl

-- a Write goes on from the cursor; a missing field refuses it
no_field : shown_of shown_form (Write 0xC2) (site 2 (set_buffer_address 3) ∷ site 5 (text (0xC5 ∷ [])) ∷ site 6 (modify_field (0xC0 ∷ 0x60 ∷ [])) ∷ [])
    ≡ Err (record { at = 6; why = NoFieldHere })
unfolding shown_of acts effect_of fault_of ruled single_cell text_cell greatest ring_on
no_field = refl

modifies : shown_of shown_form (Write 0xC2) (site 2 (set_buffer_address 1) ∷ site 5 (text (0xC5 ∷ [])) ∷ site 6 (modify_field (0xC0 ∷ 0x60 ∷ [])) ∷ [])
    ≡ Ok (record shown_form { cells = Field 0x20 ∷ plain 0xC5 ∷ Field 0x20 ∷ blank ∷ blank ∷ blank ∷ Field 0x30 ∷ replicate 13 blank })
unfolding shown_of acts effect_of fault_of ruled single_cell text_cell greatest ring_on
modifies = refl

-- text, and a tab that nulls up to the next attribute; then nothing unprotected is ahead
tabs : shown_of shown_form (Write 0xC2)
    (site 2 (set_buffer_address 3) ∷ site 5 (text (0xC5 ∷ 0xC6 ∷ 0xC7 ∷ [])) ∷ site 8 (set_buffer_address 3) ∷ site 11 (text (0xC5 ∷ []))
    ∷ site 12 program_tab ∷ site 13 insert_cursor ∷ [])
    ≡ Ok (record shown_form { cells = Field 0x20 ∷ plain 0xC1 ∷ Field 0 ∷ plain 0xC5 ∷ blank ∷ blank ∷ Field 0x30 ∷ replicate 13 blank; cursor = 0 })
unfolding shown_of acts effect_of fault_of ruled single_cell text_cell nulled_cell first_from least greatest ring_on
tabs = refl

-- the stop is the buffer address: every cell
repeats : shown_of (new 2 10) (EraseWrite 0xC2) (site 2 (repeat_to_address 0 (glyph 0xC1 false)) ∷ [])
    ≡ Ok (record (new 2 10) { cells = replicate 20 (plain 0xC1); lock = Free })
unfolding shown_of acts effect_of fault_of ruled repeated_cell ring_distance
repeats = refl

-- erasing goes round and spares what is protected
erases : shown_of shown_form (Write 0xC2)
    (site 2 (set_buffer_address 3) ∷ site 5 (text (0xC5 ∷ 0xC6 ∷ [])) ∷ site 7 (erase_unprotected_to_address 4) ∷ [])
    ≡ Ok (record shown_form { cells = Field 0x20 ∷ plain 0xC1 ∷ Field 0 ∷ blank ∷ plain 0xC6 ∷ blank ∷ Field 0x30 ∷ replicate 13 blank })
unfolding shown_of acts effect_of fault_of ruled text_cell erased_cell attribute_before least greatest ring_on ring_back ring_distance
erases = refl

extended : shown_of (new 2 10) (EraseWrite 0xC2) (site 2 (start_field_extended (0xC0 ∷ 0xF0 ∷ 0x42 ∷ 0xF2 ∷ [])) ∷ [])
    ≡ Ok (record (new 2 10) { cells = Field 0x30 ∷ replicate 19 blank; lock = Free })
unfolding shown_of acts effect_of fault_of ruled single_cell ring_on
extended = refl

outside : shown_of (new 2 10) (EraseWrite 0xC2) (site 2 (set_buffer_address 20) ∷ []) ≡ Err (record { at = 2; why = AddressOutside })
unfolding shown_of acts effect_of fault_of
outside = refl

no_write : shown_of (new 2 10) ReadModified [] ≡ Err (record { at = 0; why = NotAWrite })
unfolding shown_of
no_write = refl

clears : shown_of (record shown_form { cells = Field 0x20 ∷ plain 0xC1 ∷ Field 1 ∷ plain 0xC2 ∷ blank ∷ blank ∷ Field 0x31 ∷ replicate 13 (plain 0xC3); cursor = 5; lock = Waiting }) EraseAllUnprotected []
    ≡ Ok (record shown_form { cells = Field 0x20 ∷ plain 0xC1 ∷ Field 0 ∷ blank ∷ blank ∷ blank ∷ Field 0x31 ∷ replicate 13 (plain 0xC3) })
unfolding shown_of ruled cleared_cell first_open attribute_before least ring_on ring_back
clears = refl
