-- The text that a host sends in records of NVT-DATA, as a tolerant terminal keeps it.
use Rattle.std.specs.Prelude.{ℕ, ◌+◌, ◌==◌, nat_le, nat_lt, Bool, ◌&&◌, List, [], ◌∷◌, ◌++◌, length, if◌then◌else◌}

-- lines that end with 0A, and how many such ends there are
pub record Noted : Type 0 where
  pub text : List ℕ
  pub lines : ℕ

abbrev pub nothing_noted : Noted
nothing_noted = record { text = []; lines = 0 }

-- a character of ASCII that is printed
abbrev pub is_printable : ℕ → Bool
is_printable byte = nat_le 32 byte && nat_lt byte 127

-- at most 1,000 lines are kept, and 65,536 bytes
abbrev pub has_space : Noted → Bool
has_space noted = nat_lt noted.lines 1000 && nat_lt (length noted.text) 65536

abbrev pub kept_byte : Noted → ℕ → Noted
kept_byte noted byte =
    if byte == 10 then record { text = noted.text ++ 10 ∷ []; lines = noted.lines + 1 }
    else (if is_printable byte then record noted { text = noted.text ++ byte ∷ [] } else noted)

abbrev pub note_byte : Noted → ℕ → Noted
note_byte noted byte = if has_space noted then kept_byte noted byte else noted

abbrev pub note_bytes : Noted → List ℕ → Noted
note_bytes noted [] = noted
note_bytes noted (byte ∷ bytes) = note_bytes (note_byte noted byte) bytes
