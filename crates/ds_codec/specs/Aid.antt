-- Attention identifiers.
use Rattle.std.specs.Prelude.{ℕ, Bool, ◌==◌, List, [], ◌∷◌, ◌||◌, ◌-◌, slice_index}
use Rattle.std.specs.List.{list_any}

-- Enter, then PF1 to PF24
abbrev pub long_aids : List ℕ
long_aids =
    0x7D ∷ 0xF1 ∷ 0xF2 ∷ 0xF3 ∷ 0xF4 ∷ 0xF5 ∷ 0xF6 ∷ 0xF7 ∷ 0xF8 ∷ 0xF9 ∷ 0x7A ∷ 0x7B ∷ 0x7C
    ∷ 0xC1 ∷ 0xC2 ∷ 0xC3 ∷ 0xC4 ∷ 0xC5 ∷ 0xC6 ∷ 0xC7 ∷ 0xC8 ∷ 0xC9 ∷ 0x4A ∷ 0x4B ∷ 0x4C ∷ []

-- PA1, PA2, PA3 and Clear, which Read Modified sends alone
abbrev pub short_aids : List ℕ
short_aids = 0x6C ∷ 0x6E ∷ 0x6B ∷ 0x6D ∷ []

unfoldable pub is_long_aid : ℕ → Bool
is_long_aid byte = list_any (λ aid. aid == byte) long_aids

unfoldable pub is_short_aid : ℕ → Bool
is_short_aid byte = list_any (λ aid. aid == byte) short_aids

-- those, and 60, no key
unfoldable pub is_aid : ℕ → Bool
is_aid byte = list_any (λ aid. aid == byte) long_aids || (list_any (λ aid. aid == byte) short_aids || (byte == 0x60))

-- the attention identifier of PF1 to PF24, by the key's number
abbrev pub function_aid : ℕ → ℕ
function_aid number = slice_index long_aids number

-- that of PA1 to PA3
abbrev pub access_aid : ℕ → ℕ
access_aid number = slice_index short_aids (number - 1)
