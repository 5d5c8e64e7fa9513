-- Worked rows, computed: the definitions say what the rules of the keys say.
use Rattle.std.proofs.Common.{◌≡◌, ℕ, List, [], ◌∷◌, ◌++◌, false, replicate, refl}
use Rattle.ds_codec.specs.Aid.{is_long_aid, is_short_aid}
use Rattle.ds_codec.specs.declared.cell.Cell.{Cell}
use Rattle.ds_codec.specs.declared.cell.Cell.TheVariants.{Field, Char}
use Rattle.ds_codec.specs.declared.size.Mode.TheVariants.{Bits14}
use Rattle.ds_codec.specs.Character.{glyph}
use Rattle.ds_screen.specs.declared.lock.Lock.TheVariants.{Waiting, Free}
use Rattle.ds_screen.specs.Ring.{ring_on, ring_back, ring_distance, least}
use Rattle.ds_screen.specs.Picture.{Picture, blank, ruled}
use Rattle.ds_screen.specs.Fields.{attribute_before, first_open}
use Rattle.ds_screen.specs.Records.{cleared_cell}
use Rattle.ds_keys.specs.declared.key.Key.{Key}
use Rattle.ds_keys.specs.declared.key.Key.TheVariants.{Typed, Left, Right, Up, Tab, BackTab, NewLine, Home, EraseEof, EraseInput, Delete, Reset, Attention}
use Rattle.ds_keys.specs.declared.pressed.Pressed.TheVariants.{Done, Inhibited, Ignored, Sent}
use Rattle.ds_keys.specs.Moves.{start_ahead, start_back, settled, next_row}
use Rattle.ds_keys.specs.KeyStep.{typed_cell, end_erased_cell, run_end, deleted_cell, typed_step, erase_eof_step, delete_step, attention_step, free_step, step_of}
use Rattle.ds_keys.specs.KeyRuns.{after_key, after, answers}

abbrev plain : ℕ → Cell
plain code = Char (glyph code false)

abbrev screen : ℕ → ℕ → List Cell → ℕ → Picture
screen rows cols cells cursor =
    record {
      geometry = record { default = record { rows = rows; cols = cols }; alternate = record { rows = rows; cols = cols }; mode = Bits14 };
      size = record { rows = rows; cols = cols };
      cells = cells;
      cursor = cursor;
      lock = Free;
      aid = 0x60;
    }

-- three fields: protected at 0, an input of three cells at 2, a skipped one at 6
abbrev form : Picture
form = screen 2 10 (Field 0x20 ∷ plain 0xC1 ∷ Field 0 ∷ blank ∷ blank ∷ blank ∷ Field 0x30 ∷ replicate 13 blank) 3

-- an input at 17 that runs round the end, protected at 3
abbrev wrapped : Picture
wrapped = screen 2 10 (blank ∷ blank ∷ blank ∷ Field 0x20 ∷ replicate 13 blank ++ (Field 0 ∷ blank ∷ blank ∷ [])) 18

abbrev cursors : Picture → List Key → List ℕ
cursors v [] = []
cursors v (key ∷ keys) = (after_key v key).cursor ∷ cursors (after_key v key) keys

-- Up, Home, Right, BackTab, Left three times, NewLine
cursor_keys : cursors form (Up ∷ Home ∷ Right ∷ BackTab ∷ Left ∷ Left ∷ Left ∷ NewLine ∷ []) ≡ 13 ∷ 3 ∷ 4 ∷ 3 ∷ 2 ∷ 1 ∷ 0 ∷ 3 ∷ []
unfolding step_of free_step first_open start_back next_row attribute_before least ring_on ring_back
cursor_keys = refl

-- the field is full after three characters, and the cursor skips back to it
full_field : cursors form (Typed 0xC2 ∷ Typed 0xC2 ∷ Typed 0xC2 ∷ []) ≡ 4 ∷ 5 ∷ 3 ∷ []
unfolding step_of free_step typed_step typed_cell settled start_ahead ruled attribute_before least ring_on ring_back
full_field = refl

-- a protected character is not typed over, the keyboard locks until Reset
locked : answers form (Left ∷ Left ∷ Typed 0xC2 ∷ Tab ∷ Reset ∷ Tab ∷ []) ≡ Done ∷ Done ∷ Inhibited ∷ Ignored ∷ Done ∷ Done ∷ []
unfolding answers step_of free_step typed_step start_ahead attribute_before least ring_on ring_back
locked = refl

locked_cursors : cursors form (Left ∷ Left ∷ Typed 0xC2 ∷ Tab ∷ Reset ∷ Tab ∷ []) ≡ 2 ∷ 1 ∷ 1 ∷ 1 ∷ 1 ∷ 3 ∷ []
unfolding step_of free_step typed_step start_ahead attribute_before least ring_on ring_back
locked_cursors = refl

-- a field round the end: what Delete moves stays in the cursor's row
wrapped_delete : (after wrapped (Typed 0xC1 ∷ Typed 0xC2 ∷ Typed 0xC3 ∷ Left ∷ Left ∷ Delete ∷ [])).cells ≡
    plain 0xC3 ∷ blank ∷ blank ∷ Field 0x20 ∷ replicate 13 blank ++ (Field 1 ∷ plain 0xC1 ∷ blank ∷ [])
unfolding after step_of free_step typed_step typed_cell delete_step deleted_cell run_end settled ruled attribute_before least ring_on ring_back
wrapped_delete = refl

-- Erase EOF goes round the end
wrapped_erase : (after wrapped (Typed 0xC1 ∷ Typed 0xC2 ∷ Typed 0xC3 ∷ Left ∷ Left ∷ EraseEof ∷ [])).cells ≡
    blank ∷ blank ∷ blank ∷ Field 0x20 ∷ replicate 13 blank ++ (Field 1 ∷ plain 0xC1 ∷ blank ∷ [])
unfolding after step_of free_step typed_step typed_cell erase_eof_step end_erased_cell settled ruled attribute_before least ring_on ring_back ring_distance
wrapped_erase = refl

-- Clear sends, and leaves nulls
cleared : step_of form (Attention 0x6D) ≡ record { after = record (screen 2 10 (replicate 20 blank) 0) { lock = Waiting; aid = 0x6D }; pressed = Sent 0x6D }
unfolding step_of free_step attention_step is_long_aid is_short_aid
cleared = refl

-- three characters in a buffer without attributes
unformatted_delete : (after (screen 2 4 (plain 0xC1 ∷ plain 0xC2 ∷ plain 0xC3 ∷ replicate 5 blank) 3) (Left ∷ Left ∷ Left ∷ Delete ∷ [])).cells ≡
    plain 0xC2 ∷ plain 0xC3 ∷ replicate 6 blank
unfolding after step_of free_step delete_step deleted_cell run_end ruled attribute_before least ring_on ring_back
unformatted_delete = refl

-- an attribute at the last position, its field round the end: Left, Left, a character
last_attribute : cursors (screen 2 10 (replicate 19 blank ++ (Field 0 ∷ [])) 0) (Left ∷ Left ∷ Typed 0xC2 ∷ []) ≡ 19 ∷ 18 ∷ 0 ∷ []
unfolding step_of free_step typed_step typed_cell settled start_ahead ruled attribute_before least ring_on ring_back
last_attribute = refl

-- Erase Input: open characters and the modified data tag of the unprotected attribute, not of the protected one
input_erased : after_key (screen 1 6 (Field 0x21 ∷ plain 0xC1 ∷ Field 1 ∷ plain 0xC2 ∷ Field 1 ∷ Field 0x20 ∷ []) 1) EraseInput ≡
    screen 1 6 (Field 0x21 ∷ plain 0xC1 ∷ Field 0 ∷ blank ∷ Field 0 ∷ Field 0x20 ∷ []) 3
unfolding step_of free_step cleared_cell first_open ruled attribute_before least ring_on ring_back
input_erased = refl

-- a run of attributes that ends in an auto-skip one
skipped_over : after_key (screen 1 7 (Field 0 ∷ blank ∷ Field 0x20 ∷ Field 0x30 ∷ blank ∷ Field 0 ∷ blank ∷ []) 1) (Typed 0x40) ≡
    screen 1 7 (Field 1 ∷ plain 0x40 ∷ Field 0x20 ∷ Field 0x30 ∷ blank ∷ Field 0 ∷ blank ∷ []) 6
unfolding step_of free_step typed_step typed_cell settled start_ahead ruled attribute_before least ring_on ring_back
skipped_over = refl
