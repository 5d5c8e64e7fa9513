-- What it is for a line to say a command or an order: its name, and after it what it carries, as it is printed but for the
-- case of hexadecimal digits. There is no order of tests here, and no first match.
use Rattle.std.specs.Prelude.{◌≡◌, ◌⊎◌, ℕ, ◌<◌, true, false, List, [], ◌++◌, codes, Some, Ok}
use Rattle.hex.specs.Hex.{decode_of}
use Rattle.ds_codec.specs.declared.command.Command.{Command}
use Rattle.ds_codec.specs.declared.command.Command.TheVariants.{Write, EraseWrite, EraseWriteAlternate, EraseAllUnprotected, ReadBuffer, ReadModified, ReadModifiedAll, NoOperation}
use Rattle.ds_codec.specs.Character.{Glyph, is_glyph}
use Rattle.ds_codec.specs.Order.{Item, text, start_field, start_field_extended, set_buffer_address, set_attribute, modify_field, insert_cursor, program_tab, repeat_to_address, erase_unprotected_to_address, graphic_escape}
use Rattle.order_lines.specs.Words.{byte_told, pair_told, pairs_told, number_told, cut_at}
use Rattle.order_lines.specs.Told.{Told, command, order, told_of}

-- the name, and after it words of which this holds
abbrev pub Carries : List ℕ → List ℕ → (List ℕ → Type 0) → Type 0
Carries line name Holds = (words : List ℕ) × (line ≡ name ++ words) × Holds words

-- two hexadecimal digits of the byte
abbrev pub IsByte : ℕ → List ℕ → Type 0
IsByte byte words = byte_told words ≡ Some byte

abbrev pub IsPair : ℕ → ℕ → List ℕ → Type 0
IsPair kind value words = pair_told words ≡ Some (kind, value)

-- each pair with a space before it
abbrev pub ArePairs : List ℕ → List ℕ → Type 0
ArePairs pairs words = pairs_told words ≡ Some pairs

abbrev pub IsNumber : ℕ → List ℕ → Type 0
IsNumber n words = number_told words ≡ Some n

-- digits of a byte at least
abbrev pub IsRun : List ℕ → List ℕ → Type 0
IsRun run words = (decode_of words ≡ Ok run) × (run ≡ [] → ⊥)

-- a code after GE, or a text byte
abbrev pub IsCharacter : Glyph → List ℕ → Type 0
IsCharacter character words =
    (is_glyph character ≡ true)
    × (((character.alt ≡ true) × Carries words (codes "GE ") (IsByte character.code)) ⊎ ((character.alt ≡ false) × IsByte character.code words))

-- a number, a space, and a character
abbrev pub IsRepeat : ℕ → Glyph → List ℕ → Type 0
IsRepeat address character words =
    (number : List ℕ) × (rest : List ℕ) × (cut_at 0x20 words ≡ Some (number, rest)) × IsNumber address number × IsCharacter character rest

abbrev pub SaysCommand : List ℕ → Command → Type 0
SaysCommand line (Write wcc) = Carries line (codes "W ") (IsByte wcc)
SaysCommand line (EraseWrite wcc) = Carries line (codes "EW ") (IsByte wcc)
SaysCommand line (EraseWriteAlternate wcc) = Carries line (codes "EWA ") (IsByte wcc)
SaysCommand line EraseAllUnprotected = line ≡ codes "EAU"
SaysCommand line ReadBuffer = line ≡ codes "RB"
SaysCommand line ReadModified = line ≡ codes "RM"
SaysCommand line ReadModifiedAll = line ≡ codes "RMA"
SaysCommand line NoOperation = line ≡ codes "NOP"

abbrev pub SaysOrder : List ℕ → Item → Type 0
SaysOrder line (text run) = Carries line (codes "TEXT ") (IsRun run)
SaysOrder line (start_field attribute) = (attribute < 64) × Carries line (codes "SF ") (IsByte attribute)
SaysOrder line (start_field_extended pairs) = Carries line (codes "SFE") (ArePairs pairs)
SaysOrder line (set_buffer_address address) = Carries line (codes "SBA ") (IsNumber address)
SaysOrder line (set_attribute kind value) = Carries line (codes "SA ") (IsPair kind value)
SaysOrder line (modify_field pairs) = Carries line (codes "MF") (ArePairs pairs)
SaysOrder line insert_cursor = line ≡ codes "IC"
SaysOrder line program_tab = line ≡ codes "PT"
SaysOrder line (repeat_to_address address character) = Carries line (codes "RA ") (IsRepeat address character)
SaysOrder line (erase_unprotected_to_address address) = Carries line (codes "EUA ") (IsNumber address)
SaysOrder line (graphic_escape code) = Carries line (codes "GE ") (IsByte code)

abbrev pub Says : List ℕ → Told → Type 0
Says line (command told) = SaysCommand line told
Says line (order told) = SaysOrder line told

-- what is told of a line is what it says
abbrev pub TellsWhatIsSaid : Type 0
TellsWhatIsSaid = (line : List ℕ) (told : Told) → (told_of line ≡ Some told → Says line told) × (Says line told → told_of line ≡ Some told)
