-- The text of String, piece by piece.
use Rattle.std.specs.Prelude.{ℕ, ◌+◌, ◌-◌, ◌*◌, ◌==◌, ◌||◌, ◌&&◌, nat_le, nat_lt, Bool, List, [], ◌∷◌, ◌++◌, take, drop, codes, Option, Some, None, if◌then◌else◌}
use Rattle.std.specs.List.{prefix_len}
use Rattle.std.specs.Fmt.{decimal}
use Rattle.script_screens.specs.declared.code_page.CodePage.{CodePage}
use Rattle.script_screens.specs.declared.pieces.Piece.{Piece}
use Rattle.script_screens.specs.declared.pieces.Piece.TheVariants.{Character, Ignored, Key, Fault}
use Rattle.script_screens.specs.declared.pieces.StringKey.TheVariants.{Tab, BackTab, Left, Newline, Enter, Clear, Pf, Pa}
use Rattle.script_screens.specs.declared.pieces.StringFault.{StringFault}
use Rattle.script_screens.specs.declared.pieces.StringFault.TheVariants.{MissingData, MissingDigits, AfterP, AfterPf, AfterPa, UnknownPf, UnknownPa, Bell, VerticalTab}
use Rattle.script_screens.specs.Characters.{code_of}
use Rattle.script_screens.specs.Numbers.{is_digit}

-- ---- characters

-- the second byte of a character of Latin-1 in UTF-8, after C2 or C3
abbrev pub after_first : ℕ → List ℕ → Option ℕ × List ℕ
after_first first [] = (None, [])
after_first first (byte ∷ bytes) =
    if nat_le 0x80 byte && nat_le byte 0xBF then (Some ((first - 0xC0) * 64 + (byte - 0x80)), bytes) else (None, byte ∷ bytes)

-- the character that begins with a byte, if it is of ASCII or Latin-1 in UTF-8: a byte of others is none
abbrev pub character_at : ℕ → List ℕ → Option ℕ × List ℕ
character_at byte bytes =
    if nat_lt byte 0x80 then (Some byte, bytes) else (if (byte == 0xC2) || (byte == 0xC3) then after_first byte bytes else (None, bytes))

-- what typing a character does: nothing where it has no code
abbrev pub coded : Option ℕ → Piece
coded None = Ignored
coded (Some code) = Character code

abbrev pub typed : CodePage → Option ℕ → Piece
typed page None = Ignored
typed page (Some character) = coded (code_of page character)

abbrev pub typed_at : CodePage → ℕ → List ℕ → Piece × List ℕ
typed_at page byte bytes = (typed page (character_at byte bytes).0, (character_at byte bytes).1)

-- ---- digits of a character

abbrev pub is_hex : ℕ → Bool
is_hex byte = is_digit byte || ((nat_le 0x41 byte && nat_le byte 0x46) || (nat_le 0x61 byte && nat_le byte 0x66))

abbrev pub hex_digit : ℕ → ℕ
hex_digit byte = if nat_le byte 0x39 then byte - 0x30 else (if nat_le byte 0x46 then byte - 0x37 else byte - 0x57)

-- a character above this one is this one, which no code page has
abbrev pub within_unicode : ℕ → ℕ
within_unicode value = if nat_le value 0x10FFFF then value else 0x10FFFF

-- the value of digits after others
abbrev pub hex_value : ℕ → List ℕ → ℕ
hex_value so_far [] = so_far
hex_value so_far (byte ∷ bytes) = hex_value (within_unicode (so_far * 16 + hex_digit byte)) bytes

-- how many digits stand at the front, so many at most
abbrev pub hex_count : ℕ → List ℕ → ℕ
hex_count most bytes = if nat_le (prefix_len is_hex bytes) most then prefix_len is_hex bytes else most

-- their value, and what comes after them
abbrev pub hex_at : ℕ → List ℕ → ℕ × List ℕ
hex_at most bytes = (hex_value 0 (take (hex_count most bytes) bytes), drop (hex_count most bytes) bytes)

-- after `\x` and `\u`: 1 to 4 digits
abbrev pub numbered_at : CodePage → List ℕ → Piece × List ℕ
numbered_at page [] = (Fault MissingData, [])
numbered_at page (byte ∷ bytes) =
    if is_hex byte then (typed page (Some (hex_at 4 (byte ∷ bytes)).0), (hex_at 4 (byte ∷ bytes)).1)
    else (Fault MissingDigits, byte ∷ bytes)

-- ---- function keys

abbrev pub pf_key : ℕ → Piece
pf_key number = if nat_le 1 number && nat_le number 24 then Key (Pf number) else Fault (UnknownPf number)

abbrev pub pa_key : ℕ → Piece
pa_key number = if nat_le 1 number && nat_le number 3 then Key (Pa number) else Fault (UnknownPa number)

-- after the first digit of a PF key: a second one, or none
abbrev pub pf_second : ℕ → List ℕ → Piece × List ℕ
pf_second first [] = (pf_key first, [])
pf_second first (byte ∷ bytes) = if is_digit byte then (pf_key (first * 10 + (byte - 0x30)), bytes) else (pf_key first, byte ∷ bytes)

abbrev pub pf_at : List ℕ → Piece × List ℕ
pf_at [] = (Ignored, [])
pf_at (byte ∷ bytes) = if is_digit byte then pf_second (byte - 0x30) bytes else (Fault AfterPf, bytes)

abbrev pub pa_at : List ℕ → Piece × List ℕ
pa_at [] = (Ignored, [])
pa_at (byte ∷ bytes) = if is_digit byte then (pa_key (byte - 0x30), bytes) else (Fault AfterPa, bytes)

-- after `\p`
abbrev pub function_at : List ℕ → Piece × List ℕ
function_at [] = (Fault MissingData, [])
function_at (byte ∷ bytes) = if byte == 0x66 then pf_at bytes else (if byte == 0x61 then pa_at bytes else (Fault AfterP, bytes))

-- ---- pieces

-- the letters that are a piece by themselves after `\`: t, T, b, r, n, f, a, v
abbrev pub lettered : ℕ → Option Piece
lettered byte =
    if byte == 0x74 then Some (Key Tab) else (if byte == 0x54 then Some (Key BackTab) else (if byte == 0x62 then Some (Key Left)
    else (if byte == 0x72 then Some (Key Newline) else (if byte == 0x6E then Some (Key Enter) else (if byte == 0x66 then Some (Key Clear)
    else (if byte == 0x61 then Some (Fault Bell) else (if byte == 0x76 then Some (Fault VerticalTab) else None)))))))

-- x and u begin the number of a character, p a function key; another character stands for itself
abbrev pub escaped : CodePage → ℕ → List ℕ → Option Piece → Piece × List ℕ
escaped page byte bytes (Some piece) = (piece, bytes)
escaped page byte bytes None =
    if (byte == 0x78) || (byte == 0x75) then numbered_at page bytes else (if byte == 0x70 then function_at bytes else typed_at page byte bytes)

-- after `\`
abbrev pub escaped_at : CodePage → List ℕ → Piece × List ℕ
escaped_at page [] = (Fault MissingData, [])
escaped_at page (byte ∷ bytes) = escaped page byte bytes (lettered byte)

-- the controls that are a key: backspace, tab, form feed
abbrev pub control : ℕ → Option Piece
control byte = if byte == 0x08 then Some (Key Left) else (if byte == 0x09 then Some (Key Tab) else (if byte == 0x0C then Some (Key Clear) else None))

abbrev pub unescaped : CodePage → ℕ → List ℕ → Option Piece → Piece × List ℕ
unescaped page byte bytes (Some piece) = (piece, bytes)
unescaped page byte bytes None = if byte == 0x5C then escaped_at page bytes else typed_at page byte bytes

-- the piece at the front of a text, and what comes after it
abbrev pub piece_at : CodePage → List ℕ → Option (Piece × List ℕ)
piece_at page [] = None
piece_at page (byte ∷ bytes) = Some (unescaped page byte bytes (control byte))

-- ---- faults

abbrev pub fault_words : StringFault → List ℕ
fault_words MissingData = codes "Missing data after \\"
fault_words MissingDigits = codes "Missing hex digits after \\x"
fault_words AfterP = codes "Unknown character after \\p"
fault_words AfterPf = codes "Unknown character after \\pf"
fault_words AfterPa = codes "Unknown character after \\pa"
fault_words (UnknownPf number) = codes "Unknown PF key " ++ decimal number
fault_words (UnknownPa number) = codes "Unknown PA key " ++ decimal number
fault_words Bell = codes "Bell not supported"
fault_words VerticalTab = codes "Vertical tab not supported"
