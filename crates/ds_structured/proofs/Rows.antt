-- Worked rows, computed: fields as GA23-0059 lays them out, and replies whose sizes were written out by hand.
use Rattle.std.proofs.Common.{◌≡◌, ℕ, List, [], ◌∷◌, ◌++◌, Some, None, refl}
use Rattle.ds_codec.specs.declared.size.Mode.TheVariants.{Bits14}
use Rattle.ds_codec.specs.Geometry.{Sizes}
use Rattle.ds_structured.specs.Fields.{each, listed, query, draw, fields_within, fields_in}
use Rattle.ds_structured.specs.Replies.{query_reply}

-- ---- fields

queried : fields_in (0xF3 ∷ 0x00 ∷ 0x05 ∷ 0x01 ∷ 0xFF ∷ 0x02 ∷ []) ≡ Some (query each ∷ [])
unfolding fields_within
queried = refl

-- a list of two codes; 0 as the length is all that is left
queried_list : fields_in (0x11 ∷ 0x00 ∷ 0x00 ∷ 0x01 ∷ 0xFF ∷ 0x03 ∷ 0x00 ∷ 0x81 ∷ 0x86 ∷ []) ≡ Some (query (listed (0x81 ∷ 0x86 ∷ [])) ∷ [])
unfolding fields_within
queried_list = refl

-- a Write, and then a query
drawn_and_queried : fields_in (0xF3 ∷ 0x00 ∷ 0x06 ∷ 0x40 ∷ 0x00 ∷ 0xF1 ∷ 0xC2 ∷ 0x00 ∷ 0x05 ∷ 0x01 ∷ 0xFF ∷ 0x02 ∷ [])
    ≡ Some (draw (0xF1 ∷ 0xC2 ∷ []) ∷ query each ∷ [])
unfolding fields_within
drawn_and_queried = refl

-- no field, a length that only counts itself, one past the end, a read, another partition, another field
no_field : fields_in (0xF3 ∷ []) ≡ None
unfolding fields_within
no_field = refl

no_identifier : fields_in (0xF3 ∷ 0x00 ∷ 0x02 ∷ 0x40 ∷ []) ≡ None
unfolding fields_within
no_identifier = refl

past_the_end : fields_in (0xF3 ∷ 0x00 ∷ 0x06 ∷ 0x01 ∷ 0xFF ∷ 0x02 ∷ []) ≡ None
unfolding fields_within
past_the_end = refl

read_inside : fields_in (0xF3 ∷ 0x00 ∷ 0x05 ∷ 0x40 ∷ 0x00 ∷ 0xF6 ∷ []) ≡ None
unfolding fields_within
read_inside = refl

one_partition : fields_in (0xF3 ∷ 0x00 ∷ 0x05 ∷ 0x01 ∷ 0x00 ∷ 0x02 ∷ []) ≡ None
unfolding fields_within
one_partition = refl

erase_reset : fields_in (0xF3 ∷ 0x00 ∷ 0x04 ∷ 0x03 ∷ 0x00 ∷ []) ≡ None
unfolding fields_within
erase_reset = refl

-- ---- replies of a terminal of 24 rows of 80 and 43 of 80: 3,440 cells

abbrev model_4 : Sizes
model_4 = record { default = record { rows = 24; cols = 80 }; alternate = record { rows = 43; cols = 80 }; mode = Bits14 }

abbrev area : List ℕ
area =
    0x00 ∷ 0x17 ∷ 0x81 ∷ 0x81 ∷ 0x01 ∷ 0x00 ∷ 0x00 ∷ 0x50 ∷ 0x00 ∷ 0x2B ∷ 0x01 ∷ 0x00 ∷ 0x0A ∷ 0x02 ∷ 0xE5
    ∷ 0x00 ∷ 0x02 ∷ 0x00 ∷ 0x6F ∷ 0x09 ∷ 0x0C ∷ 0x0D ∷ 0x70 ∷ []

abbrev partition : List ℕ
partition = 0x00 ∷ 0x11 ∷ 0x81 ∷ 0xA6 ∷ 0x00 ∷ 0x00 ∷ 0x0B ∷ 0x01 ∷ 0x00 ∷ 0x00 ∷ 0x50 ∷ 0x00 ∷ 0x18 ∷ 0x00 ∷ 0x50 ∷ 0x00 ∷ 0x2B ∷ []

every_reply : query_reply model_4 each ≡ 0x88 ∷ 0x00 ∷ 0x07 ∷ 0x81 ∷ 0x80 ∷ 0x80 ∷ 0x81 ∷ 0xA6 ∷ area ++ partition
every_reply = refl

one_reply : query_reply model_4 (listed (0x86 ∷ 0x81 ∷ [])) ≡ 0x88 ∷ area
one_reply = refl

no_reply : query_reply model_4 (listed (0x86 ∷ [])) ≡ 0x88 ∷ 0x00 ∷ 0x04 ∷ 0x81 ∷ 0xFF ∷ []
no_reply = refl
