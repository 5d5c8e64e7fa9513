-- What was written, and not passed on yet.
use Rattle.std.specs.Prelude.{◌≡◌, ℕ, List, ◌++◌, take, Option, Some, None}

-- what a write took is held back
abbrev pub Grows : List ℕ → List ℕ → List ℕ → Option ℕ → Type 0
Grows old new bytes (Some count) = new ≡ old ++ take count bytes
Grows old new bytes None = new ≡ old
