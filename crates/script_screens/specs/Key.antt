-- The argument of Key.
use Rattle.std.specs.Prelude.{ℕ, ◌==◌, ◌||◌, ◌&&◌, nat_le, nat_lt, Bool, List, [], ◌∷◌, ◌++◌, length, codes, Option, Some, None, if◌then◌else◌}
use Rattle.script_screens.specs.declared.code_page.CodePage.{CodePage}
use Rattle.script_screens.specs.declared.key.Typed.{Typed}
use Rattle.script_screens.specs.declared.key.Typed.TheVariants.{Code, NoCode, Unknown}
use Rattle.script_screens.specs.Characters.{code_of}
use Rattle.script_screens.specs.KeyNames.{character_named}
use Rattle.script_screens.specs.Pieces.{after_first, hex_at}

-- a byte of a character in UTF-8 after its first one
abbrev pub goes_on : ℕ → Bool
goes_on byte = nat_le 0x80 byte && nat_le byte 0xBF

-- the number of a character of two bytes, if it is of Latin-1
abbrev pub of_two : ℕ → ℕ → Option ℕ
of_two first second = if nat_le first 0xC3 then (after_first first (second ∷ [])).0 else None

-- a text that is one character in UTF-8: its number, where it is of ASCII or Latin-1
abbrev pub one_character : List ℕ → Option (Option ℕ)
one_character (a ∷ []) = if nat_lt a 0x80 then Some (Some a) else None
one_character (a ∷ b ∷ []) = if (nat_le 0xC2 a && nat_le a 0xDF) && goes_on b then Some (of_two a b) else None
one_character (a ∷ b ∷ c ∷ []) = if (nat_le 0xE0 a && nat_le a 0xEF) && (goes_on b && goes_on c) then Some None else None
one_character (a ∷ b ∷ c ∷ d ∷ []) = if (nat_le 0xF0 a && nat_le a 0xF4) && (goes_on b && (goes_on c && goes_on d)) then Some None else None
one_character text = None

-- `0x` or `U+` and digits: their value; 0 is none, and what comes after the digits is ignored
abbrev pub is_prefix : ℕ → ℕ → Bool
is_prefix a b = ((a == 0x30) && ((b == 0x78) || (b == 0x58))) || (((a == 0x55) || (a == 0x75)) && (b == 0x2B))

abbrev pub above_zero : ℕ → Option ℕ
above_zero value = if value == 0 then None else Some value

abbrev pub numbered : List ℕ → Option ℕ
numbered (a ∷ b ∷ digits) = if is_prefix a b then above_zero (hex_at (length digits) digits).0 else None
numbered text = None

abbrev pub coded : Option ℕ → Typed
coded None = NoCode
coded (Some code) = Code code

abbrev pub typed_character : CodePage → Option ℕ → Typed
typed_character page None = NoCode
typed_character page (Some character) = coded (code_of page character)

abbrev pub typed_number : CodePage → Option ℕ → Typed
typed_number page None = Unknown
typed_number page (Some character) = coded (code_of page character)

abbrev pub typed_name : CodePage → List ℕ → Option ℕ → Typed
typed_name page text None = typed_number page (numbered text)
typed_name page text (Some character) = coded (code_of page character)

abbrev pub typed_text : CodePage → List ℕ → Option (Option ℕ) → Typed
typed_text page text None = typed_name page text (character_named text)
typed_text page text (Some character) = typed_character page character

-- one character, a name, or a number
abbrev pub key_of : CodePage → List ℕ → Typed
key_of page text = typed_text page text (one_character text)

-- what is said of one that is unknown: no space comes before an empty one
abbrev pub unknown_words : List ℕ → List ℕ
unknown_words text = if length text == 0 then codes "Key(): Nonexistent or invalid name:" else codes "Key(): Nonexistent or invalid name: " ++ text
