-- Attributes, the fields that they begin, and what may be typed over.
use Rattle.std.specs.Prelude.{◌≡◌, ℕ, ◌<◌, ◌-◌, Bool, true, false, not, ◌&&◌, ◌==◌, List, map, length, Option, Some, None, option_map, unwrap_or, if◌then◌else◌, IfSome}
use Rattle.std.specs.List.{range_with_len, filter}
use Rattle.ds_codec.specs.declared.cell.Cell.{Cell}
use Rattle.ds_codec.specs.declared.cell.Cell.TheVariants.{Field, Char}
use Rattle.ds_codec.specs.Attribute.{is_protected}
use Rattle.ds_screen.specs.declared.field.FieldAt.{FieldAt}
use Rattle.ds_screen.specs.Ring.{ring_on, ring_back, least, nearest}
use Rattle.ds_screen.specs.Picture.{cell_at}

abbrev pub is_attribute : Cell → Bool
is_attribute (Field bits) = true
is_attribute (Char glyph) = false

abbrev pub is_character : Cell → Bool
is_character cell = not (is_attribute cell)

-- the bits of an attribute, none at a character
abbrev pub bits_of : Cell → ℕ
bits_of (Field bits) = bits
bits_of (Char glyph) = 0

-- the bits of an attribute, if the cell holds one
abbrev pub attribute_of : Cell → Option ℕ
attribute_of (Field bits) = Some bits
attribute_of (Char glyph) = None

-- the attribute at the least distance going back from p, p itself first
unfoldable pub attribute_before : List Cell → ℕ → Option ℕ
attribute_before cells p =
    option_map (ring_back (length cells) p) (least (length cells) (λ d. is_attribute (cell_at cells (ring_back (length cells) p d))))

-- the attribute at the least distance going on from p, p itself first
unfoldable pub attribute_from : List Cell → ℕ → Option ℕ
attribute_from cells p =
    option_map (ring_on (length cells) p) (least (length cells) (λ d. is_attribute (cell_at cells (ring_on (length cells) p d))))

abbrev pub is_at : Option ℕ → ℕ → Bool
is_at None q = false
is_at (Some place) q = place == q

-- the attribute at q rules the character at p: no other attribute is nearer before p
abbrev pub governs : List Cell → ℕ → ℕ → Bool
governs cells q p = is_character (cell_at cells p) && is_at (attribute_before cells p) q

-- the bits of the attribute at a place that a search found; none where it found none
abbrev pub bits_at : List Cell → Option ℕ → ℕ
bits_at cells None = 0
bits_at cells (Some q) = bits_of (cell_at cells q)

-- the bits that rule position p, those of the attribute that stands there or of the nearest one before; none in a
-- buffer without attributes
abbrev pub ruling_bits : List Cell → ℕ → ℕ
ruling_bits cells p = bits_at cells (attribute_before cells p)

-- what rules a position that holds this cell, where these bits rule the position before it
abbrev pub ruling_after : ℕ → Cell → ℕ
ruling_after before (Field bits) = bits
ruling_after before (Char character) = before

-- a character may be typed over where the bits that rule it do not protect it
abbrev pub is_open_under : ℕ → Cell → Bool
is_open_under ruling cell = is_character cell && not (is_protected ruling)

-- a character that may be typed over: no attribute rules it, or an unprotected one
abbrev pub is_open : List Cell → ℕ → Bool
is_open cells p = is_open_under (ruling_bits cells p) (cell_at cells p)

-- the open character at the least distance going on, p itself first; 0 where there is none
unfoldable pub first_open : List Cell → ℕ → ℕ
first_open cells p = unwrap_or (nearest (length cells) (ring_on (length cells) p) (is_open cells)) 0

-- the positions that the attribute at q governs, from the one behind it on round the ring
unfoldable pub span_of : List Cell → ℕ → List ℕ
span_of cells q = filter (governs cells q) (map (ring_on (length cells) q) (range_with_len 1 (length cells - 1)))

-- the field that the attribute at q begins: where it stands, its bits, the position behind it, and how many cells it
-- governs
abbrev pub field_at : List Cell → ℕ → FieldAt
field_at cells q = record { at = q; attr = bits_of (cell_at cells q); place = ring_on (length cells) q 1; length = length (span_of cells q) }

-- the field whose attribute stands at a position, where one stands there
abbrev pub field_there : List Cell → ℕ → Option FieldAt
field_there cells q = if is_attribute (cell_at cells q) then Some (field_at cells q) else None

-- the places of the attributes from p to the buffer's end, in rising order
abbrev pub attributes_from : List Cell → ℕ → List ℕ
attributes_from cells p = filter (λ q. is_attribute (cell_at cells q)) (range_with_len p (length cells - p))

-- the fields whose attributes stand at p or after it, in rising order
abbrev pub fields_from : List Cell → ℕ → List FieldAt
fields_from cells p = map (field_at cells) (attributes_from cells p)

abbrev pub fields_of : List Cell → List FieldAt
fields_of cells = fields_from cells 0

-- what a search from a position on round the buffer finds, where there is such a position
pub record IsAhead (cells : List Cell) (from : ℕ) (ahead : Option ℕ) : Type 0 where
  pub nearest : from < length cells → ahead ≡ attribute_from cells from
  pub inside : from < length cells → IfSome ahead (λ q. q < length cells)
