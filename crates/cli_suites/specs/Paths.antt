-- Paths of files, and whether a path is among them.
use Rattle.std.specs.Prelude.{String, ◌≡◌, ℕ, Bool, bytes_eq, List}
use Rattle.std.specs.List.{list_any}
use Rattle.std.specs.BTreeSet.{BTreeSet, contains_text}

abbrev pub has_path : List (List ℕ) → List ℕ → Bool
has_path paths path = list_any (λ other. bytes_eq other path) paths

-- the set is that of the paths
abbrev pub AreThese : {Y : Type 0} → List (List ℕ) → BTreeSet (String Y) → Type 0
AreThese paths names = (path : List ℕ) → contains_text names path ≡ has_path paths path
