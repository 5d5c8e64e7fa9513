-- The characters that a cell can hold.
use Rattle.std.specs.Prelude.{ℕ, Bool, false, ◌&&◌, ◌||◌, nat_le, ◌==◌, List, [], ◌∷◌, if◌then◌else◌}
use Rattle.std.specs.List.{list_any}

-- a code, and whether it is of the alternate set
pub record Glyph : Type 0 where
  pub code : ℕ
  pub alt : Bool

abbrev pub glyph : ℕ → Bool → Glyph
glyph code alt = record { code = code; alt = alt }

-- what new cells hold
abbrev pub null : Glyph
null = glyph 0 false

-- the controls that are stored as characters: NUL, FF, CR, NL, EM, DUP, FM and SUB (that these are text is our own rule)
abbrev pub stored_controls : List ℕ
stored_controls = 0x00 ∷ 0x0C ∷ 0x0D ∷ 0x15 ∷ 0x19 ∷ 0x1C ∷ 0x1E ∷ 0x3F ∷ []

-- a byte that stands for itself in a record: 40 to FF, or one of those controls
unfoldable pub is_text : ℕ → Bool
is_text byte = (nat_le 0x40 byte && nat_le byte 0xFF) || list_any (λ control. control == byte) stored_controls

-- a code that may follow the graphic escape
abbrev pub is_graphic : ℕ → Bool
is_graphic code = nat_le 0x40 code && nat_le code 0xFE

-- a text byte of the plain set, or a graphic code of the alternate set
abbrev pub is_glyph : Glyph → Bool
is_glyph g = if g.alt then is_graphic g.code else is_text g.code
