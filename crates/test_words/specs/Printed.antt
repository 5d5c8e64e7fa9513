-- Words as they are printed.
use Rattle.std.specs.Prelude.{ℕ, ◌≡◌, ◌/◌, ◌%◌, Bool, true, List, [], ◌∷◌, ◌++◌, codes, if◌then◌else◌}
use Rattle.std.specs.Fmt.{digit_glyph}

-- two digits, in upper case
abbrev pub hex_word : ℕ → List ℕ
hex_word byte = digit_glyph true (byte / 16) ∷ digit_glyph true (byte % 16) ∷ []

abbrev pub bool_word : Bool → List ℕ
bool_word value = if value then codes "true" else codes "false"

-- the text, or the bytes, go on: what stood there stands
abbrev pub GoesOn : List ℕ → List ℕ → Type 0
GoesOn old new = (more : List ℕ) × (new ≡ old ++ more)
