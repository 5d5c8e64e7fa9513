-- Runs of text at the front.
use Rattle.std.proofs.lemmas.Bool.{cases_eq, eq-eqb, ne_eqb}
use Rattle.std.proofs.Common.{◌≡◌, ℕ, suc, ◌+◌, ◌<◌, ◌&&◌, inl, inr, sym, ◌∙◌, eqb, Bool, true, false, cond, List, [], ◌∷◌, ◌++◌, length, take, drop, refl, arith}
use Rattle.std.specs.List.{prefix_len, list_all}
use Rattle.ds_codec.proofs.Below.{both_true}

-- whether the first element passes
abbrev pub begins : (ℕ → Bool) → List ℕ → Bool
begins test [] = false
begins test (x ∷ xs) = test x

one_more : (n : ℕ) → 1 + n ≡ suc n
one_more n = omega arith

passes_front : (test : ℕ → Bool) (x n : ℕ) (xs : List ℕ) → test x ≡ true → list_all test (take n xs) ≡ true → list_all test (take (1 + n) (x ∷ xs)) ≡ true
passes_front test x n xs here later = rw (one_more n, here) later

pub prefix-passes : (test : ℕ → Bool) (xs : List ℕ) → list_all test (take (prefix_len test xs) xs) ≡ true
prefix-passes test [] = refl
prefix-passes test (x ∷ xs) =
    elim (test x) as (λ b. test x ≡ b → list_all test (take (cond b (1 + prefix_len test xs) 0) (x ∷ xs)) ≡ true) [
      | true ↦ λ passes. passes_front test x (prefix_len test xs) xs passes (prefix-passes test xs)
      | false ↦ λ fails. refl
    ] refl

pub begins-drop-prefix : (test : ℕ → Bool) (xs : List ℕ) → begins test (drop (prefix_len test xs) xs) ≡ false
begins-drop-prefix test [] = refl
begins-drop-prefix test (x ∷ xs) =
    elim (test x) as (λ b. test x ≡ b → begins test (drop (cond b (1 + prefix_len test xs) 0) (x ∷ xs)) ≡ false) [
      | true ↦ λ passes. rw (one_more (prefix_len test xs)) (begins-drop-prefix test xs)
      | false ↦ λ fails. fails
    ] refl

-- a run that passes, up to what doesn't
pub prefix-append : (test : ℕ → Bool) (xs ys : List ℕ) → list_all test xs ≡ true → begins test ys ≡ false → prefix_len test (xs ++ ys) ≡ length xs
prefix-append test [] [] all fails = refl
prefix-append test [] (y ∷ ys) all fails = rw fails refl
prefix-append test (x ∷ xs) ys all fails =
    let parts = both_true (test x) (list_all test xs) all in
    rw (parts.0, prefix-append test xs ys parts.1 fails) (one_more (length xs))

-- the run is not empty where the first element passes
pub prefix-some : (test : ℕ → Bool) (x : ℕ) (xs : List ℕ) → test x ≡ true → 0 < prefix_len test (x ∷ xs)
prefix-some test x xs passes = rw passes (omega arith)

eqb_suc : (a b : ℕ) → eqb (1 + a) (suc b) ≡ eqb a b
eqb_suc a b = elim (cases_eq a b) [
  | inl same ↦ let more : 1 + a ≡ suc b = omega (arith, same) in eq-eqb (1 + a) (suc b) more ∙ sym (eq-eqb a b same)
  | inr apart ↦ ne_eqb (1 + a) (suc b) (λ more. apart (omega (arith, more))) ∙ sym (ne_eqb a b apart)
]

-- a run is text where its front of text is all of it
pub all_of_run : (test : ℕ → Bool) (xs : List ℕ) → eqb (prefix_len test xs) (length xs) ≡ list_all test xs
all_of_run test [] = refl
all_of_run test (x ∷ xs) =
    elim (test x) as (λ b. eqb (cond b (1 + prefix_len test xs) 0) (suc (length xs)) ≡ (b && list_all test xs)) [
      | true ↦ eqb_suc (prefix_len test xs) (length xs) ∙ all_of_run test xs
      | false ↦ ne_eqb 0 (suc (length xs)) (λ same. omega (arith, same))
    ]
