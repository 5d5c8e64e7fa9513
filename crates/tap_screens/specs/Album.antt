-- Which screens are left in a folder: each form of screen once.
use Rattle.std.specs.Prelude.{ℕ, ◌&&◌, Bool, not, nat_lt, List, [], ◌∷◌, ◌++◌, length, if◌then◌else◌}
use Rattle.std.specs.List.{list_any}
use Rattle.std.specs.Str.{bytes_eq}

-- a screen is new where none that was left has the same draft; after 1,000 of them no more is
abbrev pub is_new : List (List ℕ) → List ℕ → Bool
is_new drafts draft = nat_lt (length drafts) 1000 && not (list_any (λ other. bytes_eq draft other) drafts)

abbrev pub drafts_after : List (List ℕ) → List ℕ → List (List ℕ)
drafts_after drafts draft = if is_new drafts draft then drafts ++ draft ∷ [] else drafts
