-- Worked rows, computed: which fields may not be selected, and what selecting does.
use Rattle.std.proofs.Common.{◌≡◌, ℕ, true, false, List, [], ◌∷◌, refl}
use Rattle.ds_codec.specs.declared.cell.Cell.{Cell}
use Rattle.ds_codec.specs.declared.cell.Cell.TheVariants.{Field, Char}
use Rattle.ds_codec.specs.Character.{glyph}
use Rattle.ds_screen.specs.Ring.{ring_on, ring_back, least}
use Rattle.ds_screen.specs.Picture.{blank, ruled}
use Rattle.ds_screen.specs.Fields.{attribute_before, span_of}
use Rattle.scr_check.specs.declared.finding.Finding.TheVariants.{Selectable}
use Rattle.scr_check.specs.Pen.{is_selectable, selectable_of, cells_selected}

abbrev plain : ℕ → Cell
plain code = Char (glyph code false)

-- a field of one cell with these bits and this character, and a protected one
abbrev form : ℕ → ℕ → List Cell
form bits code = Field bits ∷ plain code ∷ Field 0x20 ∷ blank ∷ []

-- ---- what is found

question_mark : selectable_of (form 0x24 0x6F) ≡ Selectable 1 ∷ []
unfolding is_selectable span_of attribute_before least ring_on ring_back
question_mark = refl

bright_null : selectable_of (form 0x28 0x00) ≡ Selectable 1 ∷ []
unfolding is_selectable span_of attribute_before least ring_on ring_back
bright_null = refl

-- a letter designates nothing
letter : selectable_of (form 0x24 0xC1) ≡ []
unfolding is_selectable span_of attribute_before least ring_on ring_back
letter = refl

-- neither a plain nor a hidden field can be selected
plain_field : selectable_of (form 0x20 0x6F) ≡ []
unfolding is_selectable span_of attribute_before least ring_on ring_back
plain_field = refl

hidden_field : selectable_of (form 0x2C 0x6F) ≡ []
unfolding is_selectable span_of attribute_before least ring_on ring_back
hidden_field = refl

-- an input may be selected
input : selectable_of (form 0x04 0x6F) ≡ []
unfolding is_selectable span_of attribute_before least ring_on ring_back
input = refl

-- unless it has no cell
without_cells : selectable_of (Field 0x04 ∷ Field 0x20 ∷ blank ∷ blank ∷ []) ≡ Selectable 1 ∷ []
unfolding is_selectable span_of attribute_before least ring_on ring_back
without_cells = refl

-- round the end of the buffer
round_end : selectable_of (plain 0x6E ∷ Field 0x20 ∷ plain 0xC1 ∷ Field 0x24 ∷ []) ≡ Selectable 0 ∷ []
unfolding is_selectable span_of attribute_before least ring_on ring_back
round_end = refl

-- ---- what selecting does

selects : cells_selected (form 0x04 0x6F) 0 ≡ form 0x05 0x6E
unfolding ruled ring_on
selects = refl

selects_again : cells_selected (form 0x05 0x6E) 0 ≡ form 0x04 0x6F
unfolding ruled ring_on
selects_again = refl

sends : cells_selected (form 0x04 0x50) 0 ≡ form 0x05 0x50
unfolding ruled ring_on
sends = refl

-- one of the alternate set is read by its code, and the other designator is of the plain set
alternate : cells_selected (Field 0x08 ∷ Char (glyph 0x6F true) ∷ Field 0x20 ∷ blank ∷ []) 0 ≡ form 0x09 0x6E
unfolding ruled ring_on
alternate = refl

-- an attribute is read as a null, and stays
no_cell : cells_selected (Field 0x04 ∷ Field 0x20 ∷ blank ∷ blank ∷ []) 0 ≡ Field 0x05 ∷ Field 0x20 ∷ blank ∷ blank ∷ []
unfolding ruled ring_on
no_cell = refl

-- nothing else can be selected
by_letter : cells_selected (form 0x04 0xC1) 0 ≡ form 0x04 0xC1
unfolding ruled ring_on
by_letter = refl

by_character : cells_selected (form 0x04 0x6F) 1 ≡ form 0x04 0x6F
unfolding ruled ring_on
by_character = refl
