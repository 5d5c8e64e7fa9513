-- What a terminal sends: first what it says, then its bytes.
use Rattle.std.specs.Prelude.{ℕ, Bool, not, ◌&&◌, ◌==◌, List, [], ◌∷◌, ◌++◌, map, length, Option, Some, None, if◌then◌else◌}
use Rattle.std.specs.List.{range_with_len, filter, flat_map}
use Rattle.ds_codec.specs.declared.size.Mode.{Mode}
use Rattle.ds_codec.specs.declared.cell.Cell.{Cell}
use Rattle.ds_codec.specs.declared.cell.Cell.TheVariants.{Field, Char}
use Rattle.ds_codec.specs.declared.order.OrderCode.TheVariants.{Sf, Sba}
use Rattle.ds_codec.specs.Address.{six_bit_code, written_address}
use Rattle.ds_codec.specs.Aid.{is_short_aid}
use Rattle.ds_codec.specs.Attribute.{is_modified}
use Rattle.ds_codec.specs.Character.{Glyph, null}
use Rattle.ds_codec.specs.Order.{code_of}
use Rattle.ds_codec.specs.Writing.{written_character}
use Rattle.ds_screen.specs.Ring.{ring_on}
use Rattle.ds_screen.specs.Picture.{Picture, cell_at}
use Rattle.ds_screen.specs.Fields.{bits_of, span_of, attributes_from}

-- a field as it is sent: the position behind its attribute, and its characters
pub record Sent : Type 0 where
  pub place : ℕ
  pub characters : List Glyph

-- what an answer says: the attention identifier, in a long answer the cursor's position, the characters before the
-- first field, and the fields
pub record Answer : Type 0 where
  pub aid : ℕ
  pub cursor : Option ℕ
  pub lead : List Glyph
  pub fields : List Sent

-- ---- what a picture answers

-- the character of a cell; an attribute has none, which is a null
abbrev pub character_of : Cell → Glyph
character_of (Field bits) = null
character_of (Char character) = character

-- the null, of which nothing is sent
abbrev pub is_null : Glyph → Bool
is_null character = not character.alt && (character.code == 0)

-- the characters at these places, without nulls
unfoldable pub characters_at : List Cell → List ℕ → List Glyph
characters_at cells places = filter (λ c. not (is_null c)) (map (λ p. character_of (cell_at cells p)) places)

-- the field of the attribute at q, in the order of its cells
unfoldable pub field_sent : List Cell → ℕ → Sent
field_sent cells q = record { place = ring_on (length cells) q 1; characters = characters_at cells (span_of cells q) }

abbrev pub is_modified_at : List Cell → ℕ → Bool
is_modified_at cells q = is_modified (bits_of (cell_at cells q))

-- the fields of these attributes that are modified, protected or not
unfoldable pub fields_sent : List Cell → List ℕ → List Sent
fields_sent cells places = map (field_sent cells) (filter (is_modified_at cells) places)

-- where there are no attributes, the characters of the whole buffer are sent
abbrev pub lead_sent : List Cell → List ℕ → List Glyph
lead_sent cells [] = characters_at cells (range_with_len 0 (length cells))
lead_sent cells (q ∷ places) = []

-- the attention identifier alone
abbrev pub short_answer : ℕ → Answer
short_answer aid = record { aid = aid; cursor = None; lead = []; fields = [] }

-- the cursor, and the modified fields in rising order of their attributes
abbrev pub long_answer : Picture → Answer
long_answer v =
    record {
      aid = v.aid;
      cursor = Some v.cursor;
      lead = lead_sent v.cells (attributes_from v.cells 0);
      fields = fields_sent v.cells (attributes_from v.cells 0);
    }

-- what a picture answers to Read Modified; where all is set, to Read Modified All, which sends no short answer. That
-- no key, 60, is answered as Enter is, is our own rule.
unfoldable pub answer_of : Picture → Bool → Answer
answer_of v all = if is_short_aid v.aid && not all then short_answer v.aid else long_answer v

-- ---- its bytes, where addresses are written for a buffer of so many cells

abbrev pub written_characters : List Glyph → List ℕ
written_characters characters = flat_map written_character characters

-- the mark of a field, its place and its characters
abbrev pub written_field : Mode → ℕ → Sent → List ℕ
written_field mode cells field = code_of Sba ∷ (written_address mode cells field.place ++ written_characters field.characters)

abbrev pub written_fields : Mode → ℕ → List Sent → List ℕ
written_fields mode cells fields = flat_map (written_field mode cells) fields

-- what follows the attention identifier
abbrev pub written_after : Mode → ℕ → Option ℕ → List Glyph → List Sent → List ℕ
written_after mode cells None lead fields = []
written_after mode cells (Some cursor) lead fields =
    written_address mode cells cursor ++ (written_characters lead ++ written_fields mode cells fields)

abbrev pub written_answer : Mode → ℕ → Answer → List ℕ
written_answer mode cells answer = answer.aid ∷ written_after mode cells answer.cursor answer.lead answer.fields

-- the bytes of a picture's answer
abbrev pub bytes_sent : Picture → Bool → List ℕ
bytes_sent v all = written_answer v.geometry.mode (length v.cells) (answer_of v all)

-- ---- the answer to Read Buffer

-- an attribute is a Start Field order; each character is sent, a null too
abbrev pub written_cell : Cell → List ℕ
written_cell (Field bits) = code_of Sf ∷ six_bit_code bits ∷ []
written_cell (Char character) = written_character character

-- the attention identifier, the cursor and every cell
unfoldable pub buffer_of : Picture → List ℕ
buffer_of v = v.aid ∷ (written_address v.geometry.mode (length v.cells) v.cursor ++ flat_map written_cell v.cells)
