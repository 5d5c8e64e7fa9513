-- Columns of a line of ASCII.
use Rattle.std.proofs.Common.{arith, suc}
use Rattle.std.proofs.lemmas.Bool.{ne_eqb}
use Rattle.std.specs.Prelude.{ℕ, ◌≡◌, ◌<◌, ◌/◌, refl, false, not, ◌==◌, List, [], ◌∷◌}
use Rattle.std.specs.List.{filter}
use Rattle.std.specs.Str.{IsAscii}

-- no code of ASCII goes on with a character
is_first : (code : ℕ) → code < 128 → (code / 64 == 2) ≡ false
is_first code few = ne_eqb (code / 64) 2 (λ same. omega (arith, few, same))

-- each byte is a character of its own
pub all_first : (line : List ℕ) → IsAscii line → filter (λ byte. not (byte / 64 == 2)) line ≡ line
all_first [] ascii = refl
all_first (code ∷ codes) ascii = rw (is_first code (ascii 0), all_first codes (λ i. ascii (suc i))) refl
