-- Two results that are the same.
use Rattle.std.proofs.Common.{◌≡◌, ℕ, Result, Ok, Err, ap, subst}

abbrev pub number_or : {E : Type 0} → Result ℕ E → ℕ
number_or (Ok n) = n
number_or (Err e) = 0

abbrev pub IsNone : {E : Type 0} → Result ℕ E → Type 0
IsNone (Ok n) = ⊥
IsNone (Err e) = Unit {0}

pub same_number : {E : Type 0} (r s : Result ℕ E) → r ≡ s → number_or r ≡ number_or s
same_number r s e = ap (λ x. number_or x) e

pub same_none : {E : Type 0} (r s : Result ℕ E) → r ≡ s → IsNone r → IsNone s
same_none r s e none = subst (λ x. IsNone x) e none
