-- A word of a row: a cell of the buffer, or an attribute of the characters after it.
use Rattle.std.specs.Prelude.{ℕ, Bool, true, false, ◌==◌, ◌&&◌, ◌%◌, is_some, List, [], ◌∷◌, Option, Some, None, if◌then◌else◌}
use Rattle.hex.specs.Hex.{hex_digit_value}
use Rattle.ds_codec.specs.declared.cell.Cell.TheVariants as cells
use Rattle.ds_codec.specs.Character.{glyph, is_glyph}
use Rattle.ds_codec.specs.Digits.{byte_from}
use Rattle.buffer_lines.specs.declared.cell.Kind.{Kind}
use Rattle.buffer_lines.specs.declared.cell.Kind.TheVariants as kinds
use Rattle.buffer_lines.specs.declared.cell.Word.{Word}
use Rattle.buffer_lines.specs.declared.cell.Word.TheVariants as words

-- two hexadecimal digits, of either case
abbrev pub byte_told : ℕ → ℕ → Option ℕ
byte_told high low = byte_from (hex_digit_value high) (hex_digit_value low)

-- what SF, GE and SA name
abbrev pub kind_named : ℕ → ℕ → Option Kind
kind_named first second =
    if first == 0x53 && second == 0x46 then Some kinds.Field
    else if first == 0x47 && second == 0x45 then Some kinds.Graphic
    else if first == 0x53 && second == 0x41 then Some kinds.Set
    else None

-- with a parenthesis after it
abbrev pub kind_of : ℕ → ℕ → ℕ → Option Kind
kind_of first second third = if third == 0x28 then kind_named first second else None

-- the character of a code, where there is one
abbrev pub char_word : Option ℕ → Bool → Word
char_word None alt = words.Refused
char_word (Some code) alt = if is_glyph (glyph code alt) then words.Cell (cells.Char (glyph code alt)) else words.Refused

abbrev pub is_pair : ℕ → ℕ → ℕ → ℕ → ℕ → Bool
is_pair a b sign c d = sign == 0x3D && is_some (byte_told a b) && is_some (byte_told c d)

-- what follows a comma and a pair, where a text begins so
abbrev pub after_pair : List ℕ → Option (List ℕ)
after_pair (comma ∷ a ∷ b ∷ sign ∷ c ∷ d ∷ rest) = if comma == 0x2C && is_pair a b sign c d then Some rest else None
after_pair text = None

abbrev pub is_end : List ℕ → Bool
is_end (end ∷ []) = end == 0x29
is_end text = false

-- pairs, each with a comma before it, and then a parenthesis
abbrev pub are_pairs : List ℕ → Bool
are_pairs (comma ∷ a ∷ b ∷ sign ∷ c ∷ d ∷ rest) = if comma == 0x2C && is_pair a b sign c d then are_pairs rest else false
are_pairs text = is_end text

abbrev pub field_of : Option ℕ → Word
field_of None = words.Refused
field_of (Some byte) = words.Cell (cells.Field (byte % 64))

-- c0=, two digits, and further pairs, which are no part of the attribute
abbrev pub field_word : List ℕ → Word
field_word (c ∷ nought ∷ sign ∷ high ∷ low ∷ more) =
    if c == 0x63 && nought == 0x30 && sign == 0x3D && are_pairs more then field_of (byte_told high low) else words.Refused
field_word inside = words.Refused

abbrev pub glyph_word : List ℕ → Word
glyph_word (high ∷ low ∷ end ∷ []) = if end == 0x29 then char_word (byte_told high low) true else words.Refused
glyph_word inside = words.Refused

abbrev pub set_word : List ℕ → Word
set_word (a ∷ b ∷ sign ∷ c ∷ d ∷ end ∷ []) = if end == 0x29 && is_pair a b sign c d then words.Extended else words.Refused
set_word inside = words.Refused

abbrev pub named_told : Option Kind → List ℕ → Word
named_told None inside = words.Refused
named_told (Some kinds.Field) inside = field_word inside
named_told (Some kinds.Graphic) inside = glyph_word inside
named_told (Some kinds.Set) inside = set_word inside

-- two digits, or a name with what stands between parentheses
abbrev pub word_told : List ℕ → Word
word_told [] = words.Refused
word_told (one ∷ []) = words.Refused
word_told (high ∷ low ∷ []) = char_word (byte_told high low) false
word_told (first ∷ second ∷ third ∷ inside) = named_told (kind_of first second third) inside
