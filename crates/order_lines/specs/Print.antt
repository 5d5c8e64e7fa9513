-- A record as lines of words: the command, then an order a line, then an empty line.
use Rattle.std.specs.Prelude.{◌≡◌, ◌<◌, ◌+◌, ◌*◌, ℕ, ◌/◌, ◌%◌, true, slice_index, List, [], ◌∷◌, ◌++◌, codes, if◌then◌else◌}
use Rattle.std.specs.Fmt.{decimal, digit_glyph}
use Rattle.std.specs.List.{flat_map}
use Rattle.hex.specs.Hex.{encode_upper}
use Rattle.ds_codec.specs.declared.command.Command.{Command}
use Rattle.ds_codec.specs.declared.command.Command.TheVariants.{Write, EraseWrite, EraseWriteAlternate, EraseAllUnprotected, ReadBuffer, ReadModified, ReadModifiedAll, NoOperation}
use Rattle.ds_codec.specs.Character.{Glyph}
use Rattle.ds_codec.specs.Order.{Item, text, start_field, start_field_extended, set_buffer_address, set_attribute, modify_field, insert_cursor, program_tab, repeat_to_address, erase_unprotected_to_address, graphic_escape, Site}
use Rattle.ds_codec.specs.Record.{Message}

-- two digits, in upper case
abbrev pub hex_byte : ℕ → List ℕ
hex_byte byte = digit_glyph true (byte / 16) ∷ digit_glyph true (byte % 16) ∷ []

-- a type and a value
abbrev pub pair_word : ℕ → ℕ → List ℕ
pair_word kind value = hex_byte kind ++ (codes "=" ++ hex_byte value)

-- each pair with a space before it
abbrev pub pair_words : List ℕ → List ℕ
pair_words [] = []
pair_words (kind ∷ []) = []
pair_words (kind ∷ value ∷ pairs) = codes " " ++ (pair_word kind value ++ pair_words pairs)

abbrev pub character_word : Glyph → List ℕ
character_word character = if character.alt then codes "GE " ++ hex_byte character.code else hex_byte character.code

-- an order, without its line's end
abbrev pub order_words : Item → List ℕ
order_words (text run) = codes "TEXT " ++ encode_upper run
order_words (start_field attribute) = codes "SF " ++ hex_byte attribute
order_words (start_field_extended pairs) = codes "SFE" ++ pair_words pairs
order_words (set_buffer_address address) = codes "SBA " ++ decimal address
order_words (set_attribute kind value) = codes "SA " ++ pair_word kind value
order_words (modify_field pairs) = codes "MF" ++ pair_words pairs
order_words insert_cursor = codes "IC"
order_words program_tab = codes "PT"
order_words (repeat_to_address address character) = codes "RA " ++ (decimal address ++ (codes " " ++ character_word character))
order_words (erase_unprotected_to_address address) = codes "EUA " ++ decimal address
order_words (graphic_escape code) = codes "GE " ++ hex_byte code

-- a command, without its line's end
abbrev pub command_words : Command → List ℕ
command_words (Write wcc) = codes "W " ++ hex_byte wcc
command_words (EraseWrite wcc) = codes "EW " ++ hex_byte wcc
command_words (EraseWriteAlternate wcc) = codes "EWA " ++ hex_byte wcc
command_words EraseAllUnprotected = codes "EAU"
command_words ReadBuffer = codes "RB"
command_words ReadModified = codes "RM"
command_words ReadModifiedAll = codes "RMA"
command_words NoOperation = codes "NOP"

abbrev pub order_line : Site → List ℕ
order_line site = order_words site.order ++ codes "\n"

-- the command, each order, and an empty line
abbrev pub record_lines : Message → List ℕ
record_lines message = (command_words message.command ++ codes "\n") ++ (flat_map order_line message.orders ++ codes "\n")

-- each two of the first 2 * n digits are a high one and a low one
abbrev pub AreJoined : List ℕ → List ℕ → List ℕ → ℕ → Type 0
AreJoined high low digits n =
    (k : ℕ) → k < n → (slice_index digits (2 * k) ≡ slice_index high k) × (slice_index digits (2 * k + 1) ≡ slice_index low k)
