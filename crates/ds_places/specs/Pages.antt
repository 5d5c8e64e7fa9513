-- A list of entries in blocks: one for each 512 places, and the numbers of those that hold entries.
use Rattle.std.specs.Prelude.{◌≡◌, ◌≢◌, ℕ, ◌+◌, ◌/◌, ◌<◌, ◌≤◌, List, [], ◌∷◌, ◌++◌, length, map, Option, Some, None, slice_index, slice_index_or, vec_capacity, refl}
use Rattle.std.specs.Global.{Vec}
use Rattle.std.specs.Coded.{Coded, code_by, coded×, coded_list, coded_ℕ}
use Rattle.ds_places.specs.Places.{at_place, IsRising}

-- entries in the rising order of their places, and the number below which their places are to be
pub record Paged (T : Type 0) : Type 0 where
  pub entries : List T
  pub room : ℕ

-- stored as the pair of both
abbrev pub paged_code : {T : Type 0} → Coded T → Coded (Paged T)
paged_code {T} code =
    code_by (List T × ℕ) (coded× (coded_list code) coded_ℕ) (λ v. (v.entries, v.room)) (λ p. record { entries = p.0; room = p.1 }) (λ _. refl)

abbrev pub itself : ℕ → ℕ
itself k = k

-- ---- for the code's own proofs: no public contract rests on what follows
-- the entries of all blocks, one after the other
abbrev pub entries_in : {T : Type 0} → List (List T) → List T
entries_in [] = []
entries_in (xs ∷ lists) = xs ++ entries_in lists

-- the blocks as lists
abbrev pub lists_of : {T : Type 0} → List (Vec T) → List (List T)
lists_of {T} blocks = map (λ (v : Vec T). v.items) blocks

-- for how many entries each block has room
abbrev pub rooms_of : {T : Type 0} → List (Vec T) → List ℕ
rooms_of {T} blocks = map (λ (v : Vec T). vec_capacity v) blocks

-- a block, empty where there is none of this number
abbrev pub list_at : {T : Type 0} → List (List T) → ℕ → List T
list_at lists k = slice_index_or lists k []

-- entries in rising order, each at one of the 512 places from 512 k on
pub record IsBlock {T : Type 0} (place : T → ℕ) (k : ℕ) (entries : List T) : Type 0 where
  pub rising : IsRising place entries
  pub inside : (q : ℕ) → q / 512 ≢ k → at_place place entries q ≡ None

-- k, where the block of this number holds entries
abbrev pub listed_if : {T : Type 0} → ℕ → List T → Option ℕ
listed_if k [] = None
listed_if k (x ∷ xs) = Some k

-- each block holds entries of its own places alone, and has room for an entry at each of them; the numbers of those
-- that aren't empty are listed, and no other
pub record AreBlocks {T : Type 0} (place : T → ℕ) (room : ℕ) (lists : List (List T)) (rooms : List ℕ) (used : List ℕ) : Type 0 where
  pub each : (k : ℕ) → IsBlock place k (list_at lists k)
  pub enough : length lists ≡ room / 512 + 1
  pub roomy : (k : ℕ) → k < length lists → 512 ≤ slice_index rooms k
  pub rising : IsRising itself used
  pub listed : (k : ℕ) → at_place itself used k ≡ listed_if k (list_at lists k)

-- the blocks but one are as they were, and each has the room that it had
pub record Alters {T : Type 0} (old new : List (Vec T)) (k : ℕ) : Type 0 where
  pub others : (j : ℕ) → j ≢ k → list_at (lists_of new) j ≡ list_at (lists_of old) j
  pub rooms : rooms_of new ≡ rooms_of old
