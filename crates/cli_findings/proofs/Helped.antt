-- What is said of an entry that is found.
use Rattle.std.proofs.Common.{◌≡◌, ℕ, List, Result, Ok, Err}
use Rattle.std.specs.Prelude.{IfOk}
use Rattle.cli_findings.specs.Help.{missing_text}

-- the same text of parts that are the same
pub same_missing : {E S : Type 0} (bytes : S → List ℕ) (result : Result S E) (a b : ℕ) (s t m n : List ℕ) → a ≡ b → s ≡ t → m ≡ n
    → IfOk result (λ text. bytes text ≡ missing_text a s m) → IfOk result (λ text. bytes text ≡ missing_text b t n)
same_missing bytes (Ok text) a b s t m n here spelled named is = cc
same_missing bytes (Err e) a b s t m n here spelled named is = tt
