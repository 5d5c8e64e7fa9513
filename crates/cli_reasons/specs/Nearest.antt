-- The nearest of some words.
use Rattle.std.specs.Prelude.{ℕ, ◌+◌, ◌*◌, ◌&&◌, min, nat_le, nat_lt, Bool, List, [], ◌∷◌, length, reverse, Option, Some, None, if◌then◌else◌}
use Rattle.std.specs.Char.{eq_ignore_ascii_case}

-- how many characters two words begin with alike, in either case
abbrev pub shared_front : List ℕ → List ℕ → ℕ
shared_front [] other = 0
shared_front (a ∷ rest) [] = 0
shared_front (a ∷ rest) (b ∷ others) = if eq_ignore_ascii_case a b then 1 + shared_front rest others else 0

-- how many they begin and end with alike, and no more than either has
abbrev pub shared : List ℕ → List ℕ → ℕ
shared a b = min (min (shared_front a b + shared_front (reverse a) (reverse b)) (length a)) (length b)

-- the one that shares more
abbrev pub nearer : List ℕ → List ℕ → List ℕ → List ℕ
nearer word best other = if nat_lt (shared word best) (shared word other) then other else best

-- the first of those that are nearest
abbrev pub nearest_from : List ℕ → List ℕ → List (List ℕ) → List ℕ
nearest_from word best [] = best
nearest_from word best (other ∷ others) = nearest_from word (nearer word best other) others

-- two words share half of the first
abbrev pub is_near : List ℕ → List ℕ → Bool
is_near word other = nat_lt 0 (shared word other) && nat_le (length word) (2 * shared word other)

abbrev pub near_or_none : List ℕ → List ℕ → Option (List ℕ)
near_or_none word best = if is_near word best then Some best else None

-- the nearest of some words, if it shares half of this one
abbrev pub nearest : List ℕ → List (List ℕ) → Option (List ℕ)
nearest word [] = None
nearest word (first ∷ others) = near_or_none word (nearest_from word first others)
