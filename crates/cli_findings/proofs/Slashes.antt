-- The slashes that begin a path.
use Rattle.std.proofs.Common.{◌≡◌, ◌<◌, ℕ, List, [], ◌∷◌, length, refl, arith}
use Rattle.cli_findings.specs.Uri.{one_slash}

-- there are no two of them where there are no two bytes
pub of_short : (path : List ℕ) → length path < 2 → one_slash path ≡ path
of_short [] short = refl
of_short (b ∷ []) short = refl
of_short (b ∷ (c ∷ cs)) short = absurd (omega (arith, short))
