-- Reading characters from left to right.
use Rattle.std.specs.Prelude.{ℕ, zero, suc, ◌-◌, true, false, ◌==◌, List, [], ◌∷◌, Result, Ok, Err, if◌then◌else◌}
use Rattle.ds_codec.specs.declared.order.OrderCode.TheVariants.{Ge}
use Rattle.ds_codec.specs.Character.{Glyph, glyph, is_text, is_graphic}
use Rattle.ds_codec.specs.Order.{code_of}
use Rattle.ds_inbound.specs.declared.refused.Why.{Why}
use Rattle.ds_inbound.specs.declared.refused.Why.TheVariants.{Truncated, BadCharacter, Null}

-- the code behind the graphic escape
unfoldable pub pair_at : List ℕ → Result (Glyph × ℕ) Why
pair_at [] = Err Truncated
pair_at (code ∷ rest) = if is_graphic code then Ok (glyph code true, 2) else Err BadCharacter

-- a byte that stands for itself
abbrev pub plain_at : ℕ → Result (Glyph × ℕ) Why
plain_at byte = if byte == 0x00 then Err Null else (if is_text byte then Ok (glyph byte false, 1) else Err BadCharacter)

-- the character at the front and how many bytes it takes
unfoldable pub front_character : List ℕ → Result (Glyph × ℕ) Why
front_character [] = Err Truncated
front_character (byte ∷ more) = if byte == code_of Ge then pair_at more else plain_at byte

-- a character before others, none where there is none
abbrev pub glyphs_before : Result (Glyph × ℕ) Why → (ℕ → List Glyph) → List Glyph
glyphs_before (Ok found) others = found.0 ∷ others (found.1 - 1)
glyphs_before (Err why) others = []

-- the characters up to the first byte that begins none, where so many bytes at the front belong to one before
abbrev pub characters_from : ℕ → List ℕ → List Glyph
characters_from skip [] = []
characters_from (suc skip) (byte ∷ rest) = characters_from skip rest
characters_from zero (byte ∷ rest) = glyphs_before (front_character (byte ∷ rest)) (λ skip. characters_from skip rest)

-- the characters at the front
unfoldable pub characters_in : List ℕ → List Glyph
characters_in bytes = characters_from 0 bytes
