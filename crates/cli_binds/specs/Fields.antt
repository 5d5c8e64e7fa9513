-- The line of a bound field.
use Rattle.std.specs.Prelude.{ℕ, List, ◌++◌, codes, map}
use Rattle.hex.specs.Hex.{encode_upper}
use Rattle.ds_codec.specs.Character.{Glyph}
use Rattle.ds_inbound.specs.Answer.{written_characters}
use Rattle.ds_screen.specs.Shown.{text_of}
use Rattle.scr_layout.specs.Entry.{Declared}
use Rattle.scr_check.specs.Binding.{Pair}
use Rattle.scr_check.specs.FindingText.{name_at}
use Rattle.cli_binds.specs.declared.fields.Form.{Form}
use Rattle.cli_binds.specs.declared.fields.Form.TheVariants.{Hexadecimal, Text}

-- the bytes of the characters, or the text of each
abbrev pub field_text : Form → List Glyph → List ℕ
field_text Hexadecimal characters = encode_upper (written_characters characters)
field_text Text characters = map text_of characters

-- a field by its entry's name, and its characters
abbrev pub field_line : Form → List Declared → Pair → List ℕ
field_line form entries pair = name_at entries pair.entry ++ (codes " " ++ (field_text form pair.characters ++ codes "\n"))
