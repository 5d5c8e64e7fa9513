-- The entry of a place, and the nearest before it or from it on.
use Rattle.std.specs.Prelude.{◌≡◌, ◌≢◌, ℕ, ◌≤◌, ◌<◌, ◌+◌, ◌^◌, List, length, slice_index_or, Option, Some, None, Result, Ok, Err}
use Rattle.std.specs.List.Sorted.{IsPartitionPoint}
use Rattle.ds_places.specs.Places.{at_place}

-- held at its place below q, and nothing between the two; none where nothing is held below q
abbrev pub IsLastBelow : {T : Type 0} → (T → ℕ) → List T → ℕ → Option T → Type 0
IsLastBelow place entries q None = (r : ℕ) → r < q → at_place place entries r ≡ None
IsLastBelow place entries q (Some entry) =
    (place entry < q) × (at_place place entries (place entry) ≡ Some entry)
    × ((r : ℕ) → place entry < r → r < q → at_place place entries r ≡ None)

-- held at its place from q on, and nothing between the two; none where nothing is held from q on
abbrev pub IsFirstFrom : {T : Type 0} → (T → ℕ) → List T → ℕ → Option T → Type 0
IsFirstFrom place entries q None = (r : ℕ) → q ≤ r → at_place place entries r ≡ None
IsFirstFrom place entries q (Some entry) =
    (q ≤ place entry) × (at_place place entries (place entry) ≡ Some entry)
    × ((r : ℕ) → q ≤ r → r < place entry → at_place place entries r ≡ None)

-- the index of the entry at q, or the one at which an entry of q is to be inserted
abbrev pub IsSlot : {T : Type 0} → (T → ℕ) → List T → ℕ → Result ℕ ℕ → Type 0
IsSlot {T} place entries q (Ok i) =
    IsPartitionPoint (λ entry. place entry < q) (λ entry. q ≤ place entry) entries i × (i < length entries)
    × ((d : T) → place (slice_index_or entries i d) ≡ q)
IsSlot {T} place entries q (Err i) =
    IsPartitionPoint (λ entry. place entry < q) (λ entry. q ≤ place entry) entries i × (i ≤ length entries)
    × ((d : T) → i < length entries → place (slice_index_or entries i d) ≢ q)

-- at most as many looks as the number of entries has binary digits, and so many more
abbrev pub AreFew : {T : Type 0} → List T → ℕ → ℕ → Type 0
AreFew entries more looks = (digits : ℕ) → length entries < 2 ^ digits → looks ≤ digits + more
