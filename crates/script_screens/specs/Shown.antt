-- What is shown of a cell.
use Rattle.std.specs.Prelude.{ℕ, ◌+◌, ◌/◌, ◌%◌, ◌==◌, nat_lt, false, List, [], ◌∷◌, ◌++◌, codes, Option, Some, None, if◌then◌else◌}
use Rattle.std.specs.List.{flat_map}
use Rattle.std.specs.Fmt.{digit_glyph}
use Rattle.ds_codec.specs.declared.cell.Cell.{Cell}
use Rattle.ds_codec.specs.declared.cell.Cell.TheVariants.{Field, Char}
use Rattle.ds_codec.specs.Attribute.{is_hidden}
use Rattle.ds_codec.specs.Character.{Glyph}
use Rattle.script_screens.specs.declared.code_page.CodePage.{CodePage}
use Rattle.script_screens.specs.declared.shown.Form.{Form}
use Rattle.script_screens.specs.declared.shown.Form.TheVariants.{Ascii, Ebcdic, BufferAscii, BufferUnicode, BufferEbcdic}
use Rattle.script_screens.specs.Characters.{character_of}

-- the character that is shown for a code of the text set: `*` for DUP, `;` for FM, a square for SUB and a circle for FF; the other
-- controls and the null have none
unfoldable pub shown_code : CodePage → ℕ → Option ℕ
shown_code page code =
    if code == 0x1C then Some 0x2A else (if code == 0x1E then Some 0x3B else (if code == 0x3F then Some 0x25A0
    else (if code == 0xFF then Some 0x25CF else character_of page code)))

-- for a character of the alternate set `?`: our own rule
abbrev pub shown_character : CodePage → Glyph → Option ℕ
shown_character page character = if character.alt then Some 0x3F else shown_code page character.code

-- in UTF-8; all characters that are shown are below 10000
abbrev pub utf8 : ℕ → List ℕ
utf8 character =
    if nat_lt character 0x80 then character ∷ []
    else (if nat_lt character 0x800 then (0xC0 + character / 64 % 32) ∷ (0x80 + character % 64) ∷ []
    else (0xE0 + character / 4096 % 16) ∷ (0x80 + character / 64 % 64) ∷ (0x80 + character % 64) ∷ [])

abbrev pub shown_bytes : Option ℕ → List ℕ
shown_bytes None = codes " "
shown_bytes (Some character) = utf8 character

-- two digits, in lower case
abbrev pub hex_byte : ℕ → List ℕ
hex_byte byte = digit_glyph false (byte / 16) ∷ digit_glyph false (byte % 16) ∷ []

-- the digits of the bytes of a character, and those of its number
abbrev pub byte_digits : Option ℕ → List ℕ
byte_digits None = codes "00"
byte_digits (Some character) = flat_map hex_byte (utf8 character)

abbrev pub number_digits : Option ℕ → List ℕ
number_digits None = codes "0000"
number_digits (Some character) = hex_byte (character / 256 % 256) ++ hex_byte (character % 256)

abbrev pub attribute_words : ℕ → List ℕ
attribute_words bits = codes "SF(c0=" ++ (hex_byte (0xC0 + bits) ++ codes ")")

abbrev pub code_words : Glyph → List ℕ
code_words character = if character.alt then codes "GE(" ++ (hex_byte character.code ++ codes ")") else hex_byte character.code

-- what is read of a cell that these bits rule: for Ascii a space for an attribute and for all of a hidden field
abbrev pub cell_text : CodePage → Form → ℕ → Cell → List ℕ
cell_text page Ascii bits (Field attribute) = codes " "
cell_text page Ascii bits (Char character) = if is_hidden bits then codes " " else shown_bytes (shown_character page character)
cell_text page Ebcdic bits (Field attribute) = hex_byte 0
cell_text page Ebcdic bits (Char character) = hex_byte character.code
cell_text page BufferAscii bits (Field attribute) = attribute_words attribute
cell_text page BufferAscii bits (Char character) = byte_digits (shown_character page character)
cell_text page BufferUnicode bits (Field attribute) = attribute_words attribute
cell_text page BufferUnicode bits (Char character) = number_digits (shown_character page character)
cell_text page BufferEbcdic bits (Field attribute) = attribute_words attribute
cell_text page BufferEbcdic bits (Char character) = code_words character

-- what stands between two cells of a line
abbrev pub separator : Form → List ℕ
separator Ascii = []
separator form = codes " "
