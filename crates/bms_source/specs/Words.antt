-- Words: symbols, and names in either case.
use Rattle.std.specs.Prelude.{ℕ, ◌-◌, Bool, true, false, ◌&&◌, ◌||◌, ◌==◌, nat_le, List, [], ◌∷◌, map, if◌then◌else◌}
use Rattle.std.specs.List.{list_all}
use Rattle.bms_source.specs.declared.letter.Letter.{Letter}

-- a letter in upper case
abbrev pub upper : ℕ → ℕ
upper c = if nat_le 97 c && nat_le c 122 then c - 32 else c

abbrev pub upper_word : List Letter → List ℕ
upper_word word = map (λ letter. upper letter.code) word

abbrev pub is_digit : ℕ → Bool
is_digit c = nat_le 48 c && nat_le c 57

-- a letter, @, #, $ or _
unfoldable pub begins_symbol : ℕ → Bool
begins_symbol c = nat_le 65 c && nat_le c 90 || nat_le 97 c && nat_le c 122 || c == 64 || c == 35 || c == 36 || c == 95

abbrev pub is_of_symbol : ℕ → Bool
is_of_symbol c = begins_symbol c || is_digit c

abbrev pub is_symbol : List Letter → Bool
is_symbol [] = false
is_symbol (first ∷ rest) = begins_symbol first.code && list_all (λ letter. is_of_symbol letter.code) (first ∷ rest)

-- the letters are the name, in either case
abbrev pub is_named : List Letter → List ℕ → Bool
is_named [] [] = true
is_named [] (c ∷ cs) = false
is_named (letter ∷ letters) [] = false
is_named (letter ∷ letters) (c ∷ cs) = (upper letter.code == c) && is_named letters cs
