-- Worked rows, computed: the definitions say what the data stream's book says.
use Rattle.std.proofs.Common.{◌≡◌, ℕ, true, false, List, [], ◌∷◌, ◌++◌, Ok, Err, Some, None, replicate, refl}
use Rattle.ds_codec.specs.declared.cell.Cell.{Cell}
use Rattle.ds_codec.specs.declared.cell.Cell.TheVariants.{Field, Char}
use Rattle.ds_codec.specs.declared.size.Mode.TheVariants.{Bits14}
use Rattle.ds_codec.specs.Address.{six_bit_code}
use Rattle.ds_codec.specs.Aid.{is_aid, is_short_aid}
use Rattle.ds_codec.specs.Character.{Glyph, glyph, is_text}
use Rattle.ds_screen.specs.declared.lock.Lock.TheVariants.{Waiting}
use Rattle.ds_screen.specs.Ring.{ring_on, ring_back, least}
use Rattle.ds_screen.specs.Picture.{Picture, blank}
use Rattle.ds_screen.specs.Fields.{attribute_before, span_of}
use Rattle.ds_inbound.specs.declared.refused.Why.TheVariants.{Empty, UnknownAid, Truncated, BadAddress, BadCharacter, Null}
use Rattle.ds_inbound.specs.Answer.{Sent, Answer, characters_at, field_sent, fields_sent, answer_of, bytes_sent, buffer_of}
use Rattle.ds_inbound.specs.Characters.{pair_at, front_character}
use Rattle.ds_inbound.specs.Reading.{place_at, front, answer_after, read_of}

-- a buffer of 2 rows of 10 cells, of which these are the first
abbrev on_small : ℕ → ℕ → List Cell → Picture
on_small aid cursor cells =
    record {
      geometry = record { default = record { rows = 2; cols = 10 }; alternate = record { rows = 2; cols = 10 }; mode = Bits14 };
      size = record { rows = 2; cols = 10 };
      cells = cells;
      cursor = cursor;
      lock = Waiting;
      aid = aid;
    }

abbrev plain : ℕ → Cell
plain code = Char (glyph code false)

abbrev typed : ℕ → Glyph
typed code = glyph code false

-- protected at 0, an input of three cells at 2, a skipped field at 6
abbrev form : ℕ → ℕ → List Cell → List Cell
form first input cells = Field first ∷ plain 0xC1 ∷ Field input ∷ (cells ++ Field 0x30 ∷ replicate 13 blank)

abbrev one_typed : List Cell
one_typed = form 0x20 0x01 (plain 0xC2 ∷ blank ∷ blank ∷ [])

nothing_modified : bytes_sent (on_small 0x7D 3 (form 0x20 0x00 (blank ∷ blank ∷ blank ∷ []))) false ≡ 0x7D ∷ 0x40 ∷ 0xC3 ∷ []
unfolding answer_of is_short_aid fields_sent six_bit_code
nothing_modified = refl

one_field : bytes_sent (on_small 0x7D 4 one_typed) false ≡ 0x7D ∷ 0x40 ∷ 0xC4 ∷ 0x11 ∷ 0x40 ∷ 0xC3 ∷ 0xC2 ∷ []
unfolding answer_of is_short_aid fields_sent field_sent characters_at span_of attribute_before least ring_on ring_back six_bit_code
one_field = refl

alone : bytes_sent (on_small 0x6C 4 one_typed) false ≡ 0x6C ∷ []
unfolding answer_of is_short_aid
alone = refl

all_of_it : bytes_sent (on_small 0x6C 4 one_typed) true ≡ 0x6C ∷ 0x40 ∷ 0xC4 ∷ 0x11 ∷ 0x40 ∷ 0xC3 ∷ 0xC2 ∷ []
unfolding answer_of is_short_aid fields_sent field_sent characters_at span_of attribute_before least ring_on ring_back six_bit_code
all_of_it = refl

-- a protected field that is modified is sent too
protected : bytes_sent (on_small 0x7D 3 (form 0x21 0x00 (blank ∷ blank ∷ blank ∷ []))) false ≡ 0x7D ∷ 0x40 ∷ 0xC3 ∷ 0x11 ∷ 0x40 ∷ 0xC1 ∷ 0xC1 ∷ []
unfolding answer_of is_short_aid fields_sent field_sent characters_at span_of attribute_before least ring_on ring_back six_bit_code
protected = refl

-- an empty field that is modified is its mark and its place
empty_field : bytes_sent (on_small 0x7D 0 (Field 0x20 ∷ Field 0x01 ∷ Field 0x20 ∷ replicate 17 blank)) false ≡ 0x7D ∷ 0x40 ∷ 0x40 ∷ 0x11 ∷ 0x40 ∷ 0xC2 ∷ []
unfolding answer_of is_short_aid fields_sent field_sent characters_at span_of attribute_before least ring_on ring_back six_bit_code
empty_field = refl

-- a field that runs round the end of the buffer is sent in the order of its cells, nulls left out
wrapped : bytes_sent (on_small 0x7D 19 (plain 0xC3 ∷ blank ∷ blank ∷ Field 0x20 ∷ (replicate 13 blank ++ Field 0x01 ∷ plain 0xC1 ∷ blank ∷ []))) false
    ≡ 0x7D ∷ 0x40 ∷ 0xD3 ∷ 0x11 ∷ 0x40 ∷ 0xD2 ∷ 0xC1 ∷ 0xC3 ∷ []
unfolding answer_of is_short_aid fields_sent field_sent characters_at span_of attribute_before least ring_on ring_back six_bit_code
wrapped = refl

unformatted : bytes_sent (on_small 0x7D 0 (plain 0xC1 ∷ blank ∷ plain 0xC2 ∷ Char (glyph 0xC3 true) ∷ replicate 16 blank)) false
    ≡ 0x7D ∷ 0x40 ∷ 0x40 ∷ 0xC1 ∷ 0xC2 ∷ 0x08 ∷ 0xC3 ∷ []
unfolding answer_of is_short_aid fields_sent characters_at six_bit_code
unformatted = refl

whole_buffer : buffer_of (on_small 0x60 3 (form 0x20 0x00 (blank ∷ blank ∷ blank ∷ [])))
    ≡ 0x60 ∷ 0x40 ∷ 0xC3 ∷ 0x1D ∷ 0x60 ∷ 0xC1 ∷ 0x1D ∷ 0x40 ∷ 0x00 ∷ 0x00 ∷ 0x00 ∷ 0x1D ∷ 0xF0 ∷ replicate 13 0x00
unfolding buffer_of six_bit_code
whole_buffer = refl

-- ---- reading

abbrev long : ℕ → List Glyph → List Sent → Answer
long cursor lead fields = record { aid = 0x7D; cursor = Some cursor; lead = lead; fields = fields }

reads_one : read_of Bits14 20 (0x7D ∷ 0x40 ∷ 0xC4 ∷ 0x11 ∷ 0x40 ∷ 0xC3 ∷ 0xC2 ∷ []) ≡ Ok (long 4 [] (record { place = 3; characters = typed 0xC2 ∷ [] } ∷ []))
unfolding read_of answer_after front place_at front_character is_aid is_text
reads_one = refl

reads_lead : read_of Bits14 20 (0x7D ∷ 0x00 ∷ 0x04 ∷ 0xC2 ∷ 0x08 ∷ 0xC3 ∷ 0x11 ∷ 0xC0 ∷ 0xC1 ∷ 0x11 ∷ 0x40 ∷ 0xC3 ∷ 0x08 ∷ 0x40 ∷ [])
    ≡ Ok (long 4 (typed 0xC2 ∷ glyph 0xC3 true ∷ []) (record { place = 1; characters = [] } ∷ record { place = 3; characters = glyph 0x40 true ∷ [] } ∷ []))
unfolding read_of answer_after front place_at front_character pair_at is_aid is_text
reads_lead = refl

reads_alone : read_of Bits14 20 (0x6C ∷ []) ≡ Ok (record { aid = 0x6C; cursor = None; lead = []; fields = [] })
unfolding read_of answer_after is_aid is_short_aid
reads_alone = refl

no_byte : read_of Bits14 20 [] ≡ Err (record { at = 0; why = Empty })
unfolding read_of
no_byte = refl

no_aid : read_of Bits14 20 (0x00 ∷ []) ≡ Err (record { at = 0; why = UnknownAid })
unfolding read_of is_aid
no_aid = refl

half_cursor : read_of Bits14 20 (0x6C ∷ 0x40 ∷ []) ≡ Err (record { at = 1; why = Truncated })
unfolding read_of answer_after is_aid
half_cursor = refl

far_place : read_of Bits14 20 (0x7D ∷ 0x40 ∷ 0xC4 ∷ 0x11 ∷ 0x5D ∷ 0x7F ∷ []) ≡ Err (record { at = 3; why = BadAddress })
unfolding read_of answer_after front place_at is_aid
far_place = refl

no_text : read_of Bits14 20 (0x7D ∷ 0x40 ∷ 0xC4 ∷ 0x11 ∷ 0x40 ∷ 0xC3 ∷ 0x0E ∷ []) ≡ Err (record { at = 6; why = BadCharacter })
unfolding read_of answer_after front place_at front_character is_aid is_text
no_text = refl

bad_pair : read_of Bits14 20 (0x7D ∷ 0x40 ∷ 0xC4 ∷ 0x11 ∷ 0x40 ∷ 0xC3 ∷ 0xC2 ∷ 0x08 ∷ 0x3F ∷ []) ≡ Err (record { at = 7; why = BadCharacter })
unfolding read_of answer_after front place_at front_character pair_at is_aid is_text
bad_pair = refl

sent_null : read_of Bits14 20 (0x7D ∷ 0x40 ∷ 0xC4 ∷ 0x11 ∷ 0x40 ∷ 0xC3 ∷ 0xC2 ∷ 0x00 ∷ []) ≡ Err (record { at = 7; why = Null })
unfolding read_of answer_after front place_at front_character is_aid is_text
sent_null = refl
