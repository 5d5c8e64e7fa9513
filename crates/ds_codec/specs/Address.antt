-- Buffer addresses, as two bytes.
use Rattle.std.specs.Prelude.{◌≡◌, ℕ, ◌+◌, ◌*◌, ◌/◌, ◌%◌, ◌⊎◌, List, [], ◌∷◌, Option, Some, None, nat_le, ◌==◌, if◌then◌else◌, slice_index}
use Rattle.ds_codec.specs.declared.size.Mode.{Mode}
use Rattle.ds_codec.specs.declared.size.Mode.TheVariants.{Bits14, Bits16}

-- the first two bits of a byte
abbrev pub top_bits : ℕ → ℕ
top_bits byte = byte / 64 % 4

-- Of 14 bits: two bytes that begin with 00 are a number of 14 bits, the high byte first. Where they begin with 01 or 11 the
-- low six bits of each are a number of 12 bits; that the first two bits of the second byte may then be any is our own
-- rule. No address begins with 10. Of 16 bits: any two bytes are a number, the high byte first.
abbrev pub SpellsAddress : Mode → ℕ → ℕ → ℕ → Type 0
SpellsAddress Bits14 address first second =
    ((top_bits first ≡ 0) × (address ≡ 256 * (first % 64) + second))
    ⊎ (((top_bits first ≡ 1) ⊎ (top_bits first ≡ 3)) × (address ≡ 64 * (first % 64) + second % 64))
SpellsAddress Bits16 address first second = address ≡ 256 * first + second

-- the form that no address takes
abbrev pub IsReserved : Mode → ℕ → Type 0
IsReserved Bits14 first = top_bits first ≡ 2
IsReserved Bits16 first = ⊥

-- the address that two bytes spell
abbrev pub address_at : Mode → ℕ → ℕ → Option ℕ
address_at Bits14 first second =
    if top_bits first == 0 then Some (256 * (first % 64) + second)
    else (if top_bits first == 2 then None else Some (64 * (first % 64) + second % 64))
address_at Bits16 first second = Some (256 * first + second)

-- the byte that stands for six bits in what is sent: each is a character that can be printed
abbrev pub six_bit_codes : List ℕ
six_bit_codes =
    0x40 ∷ 0xC1 ∷ 0xC2 ∷ 0xC3 ∷ 0xC4 ∷ 0xC5 ∷ 0xC6 ∷ 0xC7 ∷ 0xC8 ∷ 0xC9 ∷ 0x4A ∷ 0x4B ∷ 0x4C ∷ 0x4D ∷ 0x4E ∷ 0x4F
    ∷ 0x50 ∷ 0xD1 ∷ 0xD2 ∷ 0xD3 ∷ 0xD4 ∷ 0xD5 ∷ 0xD6 ∷ 0xD7 ∷ 0xD8 ∷ 0xD9 ∷ 0x5A ∷ 0x5B ∷ 0x5C ∷ 0x5D ∷ 0x5E ∷ 0x5F
    ∷ 0x60 ∷ 0x61 ∷ 0xE2 ∷ 0xE3 ∷ 0xE4 ∷ 0xE5 ∷ 0xE6 ∷ 0xE7 ∷ 0xE8 ∷ 0xE9 ∷ 0x6A ∷ 0x6B ∷ 0x6C ∷ 0x6D ∷ 0x6E ∷ 0x6F
    ∷ 0xF0 ∷ 0xF1 ∷ 0xF2 ∷ 0xF3 ∷ 0xF4 ∷ 0xF5 ∷ 0xF6 ∷ 0xF7 ∷ 0xF8 ∷ 0xF9 ∷ 0x7A ∷ 0x7B ∷ 0x7C ∷ 0x7D ∷ 0x7E ∷ 0x7F ∷ []

unfoldable pub six_bit_code : ℕ → ℕ
six_bit_code value = slice_index six_bit_codes value

-- the form that is written: of 14 bits six-bit codes where twelve bits reach every cell, else, and of 16 bits always, a number
abbrev pub written_address : Mode → ℕ → ℕ → List ℕ
written_address Bits14 cells address =
    if nat_le cells 4096 then six_bit_code (address / 64) ∷ six_bit_code (address % 64) ∷ []
    else address / 256 ∷ address % 256 ∷ []
written_address Bits16 cells address = address / 256 ∷ address % 256 ∷ []
