use Rattle.std.proofs.Common.{◌≡◌, ◌||◌, ℕ, List, drop, map, string_bytes}
use Rattle.std.specs.BTreeSet.{contains_text}
use Rattle.cli_suites.specs.Paths.{has_path}
use Rattle.cli_suites.proofs.paths.names_of.Given as goal

-- what is in the set so far, or among the paths that are left
abbrev pub invariant-loop-path : goal.invariant-loop-path
invariant-loop-path l =
    (path : List ℕ) → (contains_text l.names path || has_path (map string_bytes (drop l.path-index l.list)) path) ≡ has_path (map string_bytes l.list) path
