-- Lengths of COBOL pictures.
use Rattle.std.specs.Prelude.{ℕ, zero, suc, ◌+◌, ◌*◌, Bool, ◌||◌, ◌==◌, List, [], ◌∷◌, codes, length, take, drop, Option, Some, None, if◌then◌else◌}
use Rattle.std.specs.List.{list_any}
use Rattle.bms_source.specs.declared.letter.Letter.{Letter}
use Rattle.bms_source.specs.Words.{upper}
use Rattle.bms_map.specs.Values.{between, number_of, if_within, ◌>>?◌}

-- the second letter of a symbol of two
abbrev pub second_in : List Letter → ℕ → Option (ℕ × List Letter)
second_in [] second = None
second_in (letter ∷ rest) second = if upper letter.code == second then Some (2, rest) else None

-- V, S and P take no position
unfoldable pub takes_none : ℕ → Bool
takes_none code = (code == 86) || ((code == 83) || (code == 80))

-- A B E X Z 0 9 / , . + - $ * take one
unfoldable pub takes_one : ℕ → Bool
takes_one code = list_any (λ symbol. code == symbol) (codes "ABEXZ09/,.+-$*")

-- how many positions a symbol at the front takes, and what comes after it; CR and DB take two
unfoldable pub symbol_of : ℕ → List Letter → Option (ℕ × List Letter)
symbol_of code others =
    if takes_none code then Some (0, others)
    else (if code == 67 then second_in others 82
    else (if code == 68 then second_in others 66
    else (if takes_one code then Some (1, others) else None)))

abbrev pub symbol_in : List Letter → Option (ℕ × List Letter)
symbol_in [] = None
symbol_in (first ∷ others) = symbol_of (upper first.code) others

-- how many letters stand up to the first end of a parenthesis
abbrev pub close_in : List Letter → ℕ
close_in [] = 0
close_in (letter ∷ letters) = if letter.code == 41 then 0 else 1 + close_in letters

abbrev pub times_of : List Letter → List Letter → Option (ℕ × List Letter)
times_of number [] = None
times_of number (close ∷ rest) = number_of number >>? λ n. Some (n, rest)

-- how often a symbol stands, by the number in parentheses behind it, and what comes after that
abbrev pub times_in : List Letter → Option (ℕ × List Letter)
times_in [] = Some (1, [])
times_in (open_ ∷ inner) = if open_.code == 40 then times_of (take (close_in inner) inner) (drop (close_in inner) inner) else Some (1, open_ ∷ inner)

abbrev pub as_often : ℕ → Option (ℕ × List Letter) → Option (ℕ × List Letter)
as_often each None = None
as_often each (Some found) = Some (each * found.0, found.1)

-- the positions of a symbol at the front, as often as it stands, and what comes after
abbrev pub positions_in : List Letter → Option (ℕ × List Letter)
positions_in picture = symbol_in picture >>? λ found. as_often found.0 (times_in found.1)

-- the positions of at most so many symbols behind so many positions, 1 to 256 in all
abbrev pub length_from : ℕ → ℕ → List Letter → Option ℕ
length_from symbols length [] = if_within 1 256 length
length_from zero length (letter ∷ letters) = None
length_from (suc symbols) length (letter ∷ letters) =
    positions_in (letter ∷ letters) >>? λ found. if_within 0 256 (length + found.0) >>? λ n. length_from symbols n found.1

abbrev pub picture_in : Option (List Letter) → Option ℕ
picture_in None = None
picture_in (Some picture) = length_from (length picture) 0 picture

-- how many character positions a picture in apostrophes has
abbrev pub length_of : List Letter → Option ℕ
length_of value = picture_in (between value 39 39)
