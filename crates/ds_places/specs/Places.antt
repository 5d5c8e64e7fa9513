-- Entries in the rising order of their places, and what is held at each place.
use Rattle.std.specs.Prelude.{◌≡◌, ℕ, ◌≤◌, ◌+◌, ◌==◌, ◌&&◌, ◌||◌, nat_lt, nat_le, Bool, List, [], ◌∷◌, Option, Some, None, if◌then◌else◌}

-- the first entry at a place
abbrev pub at_place : {T : Type 0} → (T → ℕ) → List T → ℕ → Option T
at_place place [] q = None
at_place place (entry ∷ entries) q = if place entry == q then Some entry else at_place place entries q

-- no entry's place is below the least, and each is below the next
abbrev pub RisesFrom : {T : Type 0} → (T → ℕ) → ℕ → List T → Type 0
RisesFrom place least [] = Unit {0}
RisesFrom place least (entry ∷ entries) = (least ≤ place entry) × RisesFrom place (place entry + 1) entries

abbrev pub IsRising : {T : Type 0} → (T → ℕ) → List T → Type 0
IsRising place entries = RisesFrom place 0 entries

-- nothing is held from n on
abbrev pub IsWithin : {T : Type 0} → (T → ℕ) → ℕ → List T → Type 0
IsWithin place n entries = (q : ℕ) → n ≤ q → at_place place entries q ≡ None

-- one of so many places from b on, round a ring of n
abbrev pub is_round : ℕ → ℕ → ℕ → ℕ → Bool
is_round n b steps q = (nat_le b q && nat_lt q (b + steps)) || nat_lt (q + n) (b + steps)
