-- The texts of INITIAL and XINIT.
use Rattle.std.specs.Prelude.{ℕ, ◌+◌, ◌-◌, ◌*◌, ◌%◌, Bool, true, not, ◌&&◌, ◌||◌, ◌==◌, nat_le, List, [], ◌∷◌, length, slice_index, Option, Some, None, is_some, if◌then◌else◌}
use Rattle.std.specs.List.{list_all}
use Rattle.bms_source.specs.declared.letter.Letter.{Letter}
use Rattle.bms_source.specs.declared.letter.Place.{Place}
use Rattle.bms_map.specs.Values.{between, ◌>>?◌}
use Rattle.bms_map.specs.declared.text.Text.{Text}
use Rattle.bms_map.specs.declared.text.Text.TheVariants.{Codes, NoText, Bad}
use Rattle.bms_map.specs.declared.characters.TheConstants.{CODES}

-- the EBCDIC code of one of the 95 characters from the space to the tilde
unfoldable pub code_of : ℕ → Option ℕ
code_of character = if nat_le 32 character && nat_le character 126 then Some (slice_index CODES (character - 32)) else None

-- an apostrophe or an ampersand stands for itself where it is doubled
abbrev pub is_doubled : ℕ → Bool
is_doubled code = (code == 39) || (code == 38)

-- what comes after the character at the front of a string, if that one is whole
abbrev pub after_front : Letter → List Letter → Option (List Letter)
after_front first [] = if is_doubled first.code then None else Some []
after_front first (second ∷ rest) =
    if is_doubled first.code then (if second.code == first.code then Some rest else None) else Some (second ∷ rest)

-- what is read: the codes of a text, another form, or the place of a bad character
pub data Read : Type 0 where
  codes : (text : List ℕ) → Read
  another : Read
  bad : (place : Place) → Read

abbrev pub seen : Text → Read
seen (Codes text) = codes text.items
seen NoText = another
seen (Bad place) = bad place

abbrev pub before : Option ℕ → Place → Read → Read
before None place others = bad place
before (Some code) place (codes text) = codes (code ∷ text)
before (Some code) place another = another
before (Some code) place (bad at) = bad at

-- the characters inside the apostrophes of a string, from left to right
abbrev pub codes_in : List Letter → Read
codes_in [] = codes []
codes_in (a ∷ []) = if is_doubled a.code then bad a.place else before (code_of a.code) a.place (codes [])
codes_in (a ∷ b ∷ rest) =
    if is_doubled a.code then (if b.code == a.code then before (code_of a.code) a.place (codes_in rest) else bad a.place)
    else before (code_of a.code) a.place (codes_in (b ∷ rest))

-- the apostrophes stand in pairs
abbrev pub are_doubled : List Letter → Bool
are_doubled [] = true
are_doubled (a ∷ []) = not (a.code == 39)
are_doubled (a ∷ b ∷ rest) = if a.code == 39 then (b.code == 39) && are_doubled rest else are_doubled (b ∷ rest)

abbrev pub string_in : Option (List Letter) → Read
string_in None = another
string_in (Some inner) = if are_doubled inner then codes_in inner else another

-- INITIAL
abbrev pub string_of : List Letter → Read
string_of value = string_in (between value 39 39)

-- a hexadecimal digit, in either case
unfoldable pub digit_of : ℕ → Option ℕ
digit_of code =
    if nat_le 48 code && nat_le code 57 then Some (code - 48)
    else (if nat_le 65 code && nat_le code 70 then Some (code - 65 + 10) else (if nat_le 97 code && nat_le code 102 then Some (code - 97 + 10) else None))

-- a null, or a byte of text
abbrev pub text_byte : ℕ → Option ℕ
text_byte byte = if (byte == 0) || (nat_le 0x40 byte && nat_le byte 0xFE) then Some byte else None

abbrev pub byte_of : ℕ → ℕ → Option ℕ
byte_of high low = digit_of high >>? λ h. digit_of low >>? λ l. text_byte (h * 16 + l)

-- the bytes of pairs of digits, from left to right
abbrev pub bytes_in : List Letter → Read
bytes_in [] = codes []
bytes_in (a ∷ []) = codes []
bytes_in (a ∷ b ∷ rest) = before (byte_of a.code b.code) a.place (bytes_in rest)

abbrev pub are_digits : List Letter → Bool
are_digits value = list_all (λ letter. is_some (digit_of letter.code)) value

-- XINIT
abbrev pub digits_of : List Letter → Read
digits_of value = if (length value % 2 == 1) || not (are_digits value) then another else bytes_in value

-- the text that was read
abbrev pub text_in : Read → Option (List ℕ)
text_in (codes text) = Some text
text_in another = None
text_in (bad place) = None
