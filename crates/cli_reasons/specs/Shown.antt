-- Texts of an input, as people read them on one line.
use Rattle.std.specs.Prelude.{ℕ, ◌==◌, ◌||◌, nat_lt, List, [], ◌++◌, codes, length, map, take, if◌then◌else◌}
use Rattle.std.specs.Char.{is_ascii_graphic}

-- what ASCII prints, and `?` in place of another byte
abbrev pub shown : ℕ → ℕ
shown byte = if byte == 0x20 || is_ascii_graphic byte then byte else 0x3F

abbrev pub front_of : ℕ → List ℕ → List ℕ
front_of most bytes = if nat_lt most (length bytes) then take most bytes else bytes

abbrev pub rest_mark : List ℕ → List ℕ
rest_mark bytes = if nat_lt 40 (length bytes) then codes ".." else []

-- up to 40 bytes of a text, between two quotes
abbrev pub quoted : List ℕ → List ℕ
quoted bytes = codes "'" ++ (map shown (front_of 40 bytes) ++ (rest_mark bytes ++ codes "'"))
