-- Texts whose lines are written otherwise, one by one.
use Rattle.std.specs.Prelude.{ℕ, Bool, ◌==◌, List, [], ◌∷◌, ◌++◌}
use Rattle.std.specs.List.{slice_split}

abbrev pub is_feed : ℕ → Bool
is_feed c = c == 10

-- the lines of a text, cut at each LF; what follows the last LF is one more, which may be empty
abbrev pub parts_of : List ℕ → List (List ℕ)
parts_of text = slice_split is_feed text

-- each as it is written, an LF between two
abbrev pub joined : {A : Type 0} → (A → List ℕ) → List A → List ℕ
joined written [] = []
joined written (part ∷ []) = written part
joined written (part ∷ next ∷ parts) = written part ++ (10 ∷ joined written (next ∷ parts))

abbrev pub by_lines : (List ℕ → List ℕ) → List ℕ → List ℕ
by_lines written text = joined written (parts_of text)
