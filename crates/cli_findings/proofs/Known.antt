-- What holds of inputs that are known.
use Rattle.std.proofs.Common.{ℕ, List, Option, Some, None}
use Rattle.std.specs.Prelude.{IfSome}

pub under : (known other : Option (List ℕ)) (P Q : List ℕ → List ℕ → Type 0) → ((text input : List ℕ) → P text input → Q text input)
    → IfSome known (λ text. IfSome other (λ input. P text input)) → IfSome known (λ text. IfSome other (λ input. Q text input))
under None other P Q step is = tt
under (Some text) None P Q step is = tt
under (Some text) (Some input) P Q step is = step text input is
