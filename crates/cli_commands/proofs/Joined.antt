-- Texts one after the other.
use Rattle.std.proofs.Common.{◌≡◌, ℕ, List, [], Ok, Err, refl, ap, append_assoc}
use Rattle.std.specs.Prelude.{Result}
use Rattle.cli_commands.specs.declared.fault.Fault.{Fault}
use Rattle.cli_commands.specs.Printed.{joined}

pub joined_nothing : (all : Result (List ℕ) Fault) → joined (Ok []) all ≡ all
joined_nothing (Ok text) = refl
joined_nothing (Err fault) = refl

pub joined_assoc : (first second others : Result (List ℕ) Fault) → joined (joined first second) others ≡ joined first (joined second others)
joined_assoc (Err fault) second others = refl
joined_assoc (Ok text) (Err fault) others = refl
joined_assoc (Ok text) (Ok more) (Err fault) = refl
joined_assoc (Ok text) (Ok more) (Ok rest) = let good : List ℕ → Result (List ℕ) Fault = λ t. Ok t in ap good (append_assoc text more rest)
