-- Worked rows, computed: dialogues, the worst that an operator can have left, and shapes.
use Rattle.std.proofs.Common.{◌≡◌, ℕ, List, [], ◌∷◌, false, None, Some, replicate, refl}
use Rattle.ds_codec.specs.Aid.{is_long_aid, is_short_aid}
use Rattle.ds_codec.specs.Character.{glyph, is_text}
use Rattle.ds_codec.specs.Command.{command_code_at}
use Rattle.ds_codec.specs.Order.{order_code_at, is_set_type}
use Rattle.ds_codec.specs.Reading.{start_field_at, address_order_at, set_attribute_at, front, read_of}
use Rattle.ds_codec.specs.declared.cell.Cell.{Cell}
use Rattle.ds_codec.specs.declared.cell.Cell.TheVariants.{Field, Char}
use Rattle.ds_codec.specs.declared.size.Mode.TheVariants.{Bits14}
use Rattle.ds_codec.specs.declared.size.Size.{Size}
use Rattle.ds_screen.specs.declared.lock.Lock.TheVariants.{Waiting, Free}
use Rattle.ds_screen.specs.Ring.{ring_on, ring_back, ring_distance, least, greatest}
use Rattle.ds_screen.specs.Picture.{Picture, blank, ruled}
use Rattle.ds_screen.specs.Fields.{attribute_before, span_of}
use Rattle.ds_screen.specs.Orders.{single_cell, effect_of, fault_of}
use Rattle.ds_screen.specs.Records.{acts, shown_of}
use Rattle.ds_screen.specs.Worst.{worst_cell, worst_of}
use Rattle.ds_keys.specs.declared.key.Key.TheVariants.{Typed, Attention}
use Rattle.ds_keys.specs.KeyStep.{typed_cell, typed_step, attention_step, free_step, step_of}
use Rattle.ds_keys.specs.KeyRuns.{after_key}
use Rattle.ds_keys.specs.Moves.{settled}
use Rattle.ds_keys.specs.Shape.{shape_of}
use Rattle.scr_layout.specs.declared.entry.Kind.TheVariants.{Input}
use Rattle.scr_layout.specs.Entry.{Declared}
use Rattle.scr_check.specs.declared.finding.Finding.TheVariants.{NoRecord, KeyboardLocked, Undeclared, EmptyModified, CursorDependent}
use Rattle.scr_check.specs.Findings.{no_keys, field_finding, has_field, findings_of}
use Rattle.scr_check.specs.Walk.{Round, walk_from, walk_of}

-- a screen of one row of four cells
abbrev size : Size
size = record { rows = 1; cols = 4 }

abbrev screen : List Cell → Picture
screen cells =
    record {
      geometry = record { default = size; alternate = size; mode = Bits14 };
      size = size;
      cells = cells;
      cursor = 1;
      lock = Free;
      aid = 0x60;
    }

abbrev plain : ℕ → Cell
plain code = Char (glyph code false)

-- ---- the worst that is left: a field that can be typed into is modified, and the keyboard waits

worst_input : worst_of (screen (Field 0 ∷ plain 0xC1 ∷ blank ∷ blank ∷ [])) ≡ record (screen (Field 1 ∷ plain 0xC1 ∷ blank ∷ blank ∷ [])) { lock = Waiting }
unfolding worst_cell ruled span_of attribute_before least ring_on ring_back
worst_input = refl

-- a protected field stays, and so does an unprotected one that governs no cell
worst_others : worst_of (screen (Field 0x20 ∷ blank ∷ Field 0 ∷ Field 0x21 ∷ [])) ≡ record (screen (Field 0x20 ∷ blank ∷ Field 0 ∷ Field 0x21 ∷ [])) { lock = Waiting }
unfolding worst_cell ruled span_of attribute_before least ring_on ring_back
worst_others = refl

-- ---- shapes

shape_row : shape_of (screen (Field 1 ∷ plain 0xC1 ∷ Field 0x21 ∷ blank ∷ [])) ≡ record { size = size; forms = Field 0 ∷ blank ∷ Field 0x21 ∷ blank ∷ [] }
shape_row = refl

typing_keeps : shape_of (after_key (screen (Field 0 ∷ blank ∷ blank ∷ Field 0x30 ∷ [])) (Typed 0xC1)) ≡ record { size = size; forms = Field 0 ∷ blank ∷ blank ∷ Field 0x30 ∷ [] }
unfolding step_of free_step typed_step typed_cell settled ruled attribute_before least ring_on ring_back
typing_keeps = refl

clear_does_not : shape_of (after_key (screen (Field 0 ∷ blank ∷ blank ∷ Field 0x30 ∷ [])) (Attention 0x6D)) ≡ record { size = size; forms = replicate 4 blank }
unfolding step_of free_step attention_step is_long_aid is_short_aid
clear_does_not = refl

-- ---- dialogues: one input of three cells at 1, and then another screen

abbrev entries : List Declared
entries = record { name = 0x63 ∷ []; place = 1; length = 3; kind = Input } ∷ []

abbrev turn : List Declared → List (List ℕ) → Round
turn declared records =
    record {
      records = records;
      layout = record { geometry = record { default = size; alternate = size; mode = Bits14 }; size = size; entries = declared };
    }

-- Erase/Write, an input from 1 on, the cursor in it
abbrev sign_on : Round
sign_on = turn entries ((0xF5 ∷ 0xC2 ∷ 0x1D ∷ 0x40 ∷ 0x13 ∷ []) ∷ [])

none_at_all : walk_of [] ≡ None
unfolding walk_of
none_at_all = refl

-- the cursor is put by its address
with_address : walk_of (sign_on ∷ turn entries ((0xF1 ∷ 0xC2 ∷ 0x11 ∷ 0x40 ∷ 0xC1 ∷ 0x13 ∷ []) ∷ []) ∷ []) ≡ None
unfolding walk_of walk_from findings_of field_finding has_field read_of front start_field_at address_order_at is_text command_code_at order_code_at shown_of acts effect_of fault_of single_cell worst_cell ruled span_of attribute_before least greatest ring_on ring_back
with_address = refl

-- it is put where the operator left it, also after a Set Attribute
without_address : walk_of (sign_on ∷ turn entries ((0xF1 ∷ 0xC2 ∷ 0x13 ∷ []) ∷ []) ∷ []) ≡ Some (record { turn = 1; findings = CursorDependent 0 ∷ [] })
unfolding walk_of walk_from findings_of field_finding has_field read_of front start_field_at address_order_at is_text command_code_at order_code_at shown_of acts effect_of fault_of single_cell worst_cell ruled span_of attribute_before least greatest ring_on ring_back
without_address = refl

after_attribute : walk_of (sign_on ∷ turn entries ((0xF1 ∷ 0xC2 ∷ 0x28 ∷ 0x41 ∷ 0x00 ∷ 0x13 ∷ []) ∷ []) ∷ []) ≡ Some (record { turn = 1; findings = CursorDependent 0 ∷ [] })
unfolding walk_of walk_from findings_of field_finding has_field read_of front start_field_at set_attribute_at is_set_type is_text command_code_at order_code_at shown_of acts effect_of fault_of single_cell worst_cell ruled span_of attribute_before least greatest ring_on ring_back
after_attribute = refl

-- the keyboard waits unless it is restored
locked : walk_of (sign_on ∷ turn entries ((0xF1 ∷ 0x40 ∷ 0x11 ∷ 0x40 ∷ 0xC1 ∷ 0x13 ∷ []) ∷ []) ∷ []) ≡ Some (record { turn = 1; findings = KeyboardLocked ∷ [] })
unfolding walk_of walk_from findings_of field_finding has_field read_of front start_field_at address_order_at is_text command_code_at order_code_at shown_of acts effect_of fault_of single_cell worst_cell ruled span_of attribute_before least greatest ring_on ring_back
locked = refl

no_record : walk_of (sign_on ∷ turn entries [] ∷ []) ≡ Some (record { turn = 1; findings = NoRecord ∷ [] })
unfolding walk_of walk_from findings_of field_finding has_field read_of front start_field_at is_text command_code_at order_code_at shown_of acts effect_of fault_of single_cell worst_cell ruled span_of attribute_before least greatest ring_on ring_back
no_record = refl

-- keys of a later turn's finding are 0 and 0
undeclared : walk_of (sign_on ∷ turn [] ((0xF1 ∷ 0xC2 ∷ []) ∷ []) ∷ []) ≡ Some (record { turn = 1; findings = Undeclared 1 no_keys ∷ [] })
unfolding walk_of walk_from findings_of field_finding has_field read_of front start_field_at is_text command_code_at order_code_at shown_of acts effect_of fault_of single_cell worst_cell ruled span_of attribute_before least greatest ring_on ring_back ring_distance
undeclared = refl

-- what was typed stays modified, unless the record resets it
still_modified : walk_of (sign_on ∷ turn [] ((0xF1 ∷ 0xC2 ∷ 0x11 ∷ 0x40 ∷ 0xC1 ∷ 0x1D ∷ 0xF0 ∷ []) ∷ []) ∷ []) ≡ Some (record { turn = 1; findings = EmptyModified 1 ∷ [] })
unfolding walk_of walk_from findings_of field_finding has_field read_of front start_field_at address_order_at is_text command_code_at order_code_at shown_of acts effect_of fault_of single_cell worst_cell ruled span_of attribute_before least greatest ring_on ring_back
still_modified = refl

reset : walk_of (sign_on ∷ turn [] ((0xF1 ∷ 0xC3 ∷ 0x11 ∷ 0x40 ∷ 0xC1 ∷ 0x1D ∷ 0xF0 ∷ []) ∷ []) ∷ []) ≡ None
unfolding walk_of walk_from findings_of field_finding has_field read_of front start_field_at address_order_at is_text command_code_at order_code_at shown_of acts effect_of fault_of single_cell worst_cell ruled span_of attribute_before least greatest ring_on ring_back
reset = refl
