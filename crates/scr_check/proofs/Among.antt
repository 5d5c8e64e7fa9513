-- What stands in lists of places, and in what is made of them.
use Rattle.std.proofs.Common.{◌≡◌, ◌≢◌, ℕ, zero, suc, ◌+◌, ◌<◌, ◌≤◌, ◌⊎◌, ◌&&◌, ◌||◌, Bool, true, false, cond, eqb, List, [], ◌∷◌, ◌++◌, length, map, Option, Some, None, refl, sym, ◌∙◌, ap, arith, inl, inr}
use Rattle.std.specs.Prelude.{option_to_list}
use Rattle.std.specs.List.{range_with_len, filter, flat_map, list_any, list_all}
use Rattle.std.specs.List.Sorted.{IsStrictlyIncreasing}
use Rattle.std.proofs.lemmas.Bool.{cond-true, cond-false, cases_Bool, cases_eq, and_parts, eq-eqb, ne_eqb, eqb-true}
use Rattle.std.proofs.lemmas.List.FromFn.{get_or-range_with_len, length-range_with_len}
use Rattle.scr_check.specs.Promise.{is_among}

or_cases : (a b : Bool) → (a || b) ≡ true → (a ≡ true) ⊎ (b ≡ true)
or_cases true b is = inl refl
or_cases false b is = inr is

or_late : (a b : Bool) → b ≡ true → (a || b) ≡ true
or_late true b is = refl
or_late false b is = is

-- ---- lists that a test keeps

one_filtered : (test : ℕ → Bool) (q x : ℕ) (xs ys : List ℕ) → is_among ys q ≡ (test q && is_among xs q)
    → is_among (cond (test x) (x ∷ ys) ys) q ≡ (test q && (eqb x q || is_among xs q))
one_filtered test q x xs ys rest =
    elim (cases_eq x q) [
      | inl same ↦ at_place same (test q) refl
      | inr apart ↦ passed apart (test x) ∙ rest ∙ ap (λ t. test q && (t || is_among xs q)) (sym (ne_eqb x q apart))
    ]
  where
    at_place : x ≡ q → (t : Bool) → test q ≡ t → is_among (cond (test x) (x ∷ ys) ys) q ≡ (test q && (eqb x q || is_among xs q))
    at_place same true is =
        ap (λ t. is_among (cond t (x ∷ ys) ys) q) (ap test same ∙ is) ∙ ap (λ t. t || is_among ys q) (eq-eqb x q same)
        ∙ sym (ap (λ t. t && (eqb x q || is_among xs q)) is ∙ ap (λ t. t || is_among xs q) (eq-eqb x q same))
    at_place same false is =
        ap (λ t. is_among (cond t (x ∷ ys) ys) q) (ap test same ∙ is) ∙ rest ∙ ap (λ t. t && is_among xs q) is
        ∙ sym (ap (λ t. t && (eqb x q || is_among xs q)) is)

    passed : x ≢ q → (t : Bool) → is_among (cond t (x ∷ ys) ys) q ≡ is_among ys q
    passed apart true = ap (λ t. t || is_among ys q) (ne_eqb x q apart)
    passed apart false = refl

pub among_filter : (test : ℕ → Bool) (xs : List ℕ) (q : ℕ) → is_among (filter test xs) q ≡ (test q && is_among xs q)
among_filter test [] q = sym (and_no (test q))
  where
    and_no : (t : Bool) → (t && false) ≡ false
    and_no true = refl
    and_no false = refl
among_filter test (x ∷ xs) q = one_filtered test q x xs (filter test xs) (among_filter test xs q)

pub among_range : (p k q : ℕ) → p ≤ q → q < p + k → is_among (range_with_len p k) q ≡ true
among_range p zero q above below = absurd (omega arith)
among_range p (suc k) q above below =
    elim (cases_eq p q) [
      | inl same ↦ ap (λ t. t || is_among (range_with_len (p + 1) k) q) (eq-eqb p q same)
      | inr apart ↦ or_late (eqb p q) _ (among_range (p + 1) k q (omega arith) (omega arith))
    ]

pub range_rises : (p k : ℕ) → IsStrictlyIncreasing (range_with_len p k)
range_rises p k i few =
    let within : i + 1 < k = omega (arith, few, length-range_with_len p k) in
    let here = get_or-range_with_len p k i 0 (omega arith) in
    let next = get_or-range_with_len p k (i + 1) 0 within in
    omega (arith, here, next)

-- ---- lists in which nothing was found

none_first : {A : Type 0} (o : Option A) (xs : List A) → option_to_list o ++ xs ≡ [] → (o ≡ None) × (xs ≡ [])
none_first None xs e = (refl, e)
none_first (Some a) xs e = absurd cc

-- nothing is found at a place among these
pub none_found : {A F : Type 0} (found : F → Option A) (made : ℕ → F) (places : List ℕ) (q : ℕ) → is_among places q ≡ true
    → flat_map (λ f. option_to_list (found f)) (map made places) ≡ [] → found (made q) ≡ None
none_found found made [] q among none = absurd cc
none_found found made (p ∷ places) q among none =
    let parts = none_first (found (made p)) _ none in
    elim (or_cases (eqb p q) (is_among places q) among) [
      | inl here ↦ ap (λ z. found (made z)) (sym (eqb-true p q here)) ∙ parts.0
      | inr later ↦ none_found found made places q later parts.1
    ]

pub append_none : {A : Type 0} (xs ys : List A) → xs ++ ys ≡ [] → xs ≡ []
append_none [] ys e = refl
append_none (x ∷ xs) ys e = absurd cc

-- ---- what holds of all of a list holds of each of it

pub each_of_all : (test : ℕ → Bool) (xs : List ℕ) (q : ℕ) → list_all test xs ≡ true → list_any (λ x. eqb x q) xs ≡ true → test q ≡ true
each_of_all test [] q all among = absurd cc
each_of_all test (x ∷ xs) q all among =
    let parts = and_parts (test x) (list_all test xs) all in
    elim (or_cases (eqb x q) (list_any (λ y. eqb y q) xs) among) [
      | inl here ↦ ap test (sym (eqb-true x q here)) ∙ parts.0
      | inr later ↦ each_of_all test xs q parts.1 later
    ]

-- ---- lengths, and maps over what a test keeps

pub filter_shorter : {A : Type 0} (test : A → Bool) (xs : List A) → length (filter test xs) ≤ length xs
filter_shorter test [] = omega arith
filter_shorter test (x ∷ xs) =
    let P : List _ → Type 0 = λ ys. length ys ≤ suc (length xs) in
    let rest = filter_shorter test xs in
    elim (test x) as (λ b. P (cond b (x ∷ filter test xs) (filter test xs))) [ true ↦ omega (arith, rest) | false ↦ omega (arith, rest) ]

pub map_length : {A B : Type 0} (f : A → B) (xs : List A) → length (map f xs) ≡ length xs
map_length f [] = refl
map_length f (x ∷ xs) = ap suc (map_length f xs)

pub map_kept : {B : Type 0} (f g : ℕ → B) (test : ℕ → Bool) (xs : List ℕ) → ((p : ℕ) → test p ≡ true → f p ≡ g p) → map f (filter test xs) ≡ map g (filter test xs)
map_kept f g test [] same = refl
map_kept f g test (x ∷ xs) same =
    elim (cases_Bool (test x)) [
      | inl is ↦
          ap (map f) (cond-true (test x) (x ∷ filter test xs) (filter test xs) is)
          ∙ ap (λ y. y ∷ map f (filter test xs)) (same x is) ∙ ap (λ ys. g x ∷ ys) (map_kept f g test xs same)
          ∙ sym (ap (map g) (cond-true (test x) (x ∷ filter test xs) (filter test xs) is))
      | inr not ↦
          ap (map f) (cond-false (test x) (x ∷ filter test xs) (filter test xs) not) ∙ map_kept f g test xs same
          ∙ sym (ap (map g) (cond-false (test x) (x ∷ filter test xs) (filter test xs) not))
    ]

-- nothing kept, nothing passes
pub nothing_kept : (test : ℕ → Bool) (f : ℕ → ℕ) (p k i : ℕ) → p ≤ i → i < p + k → length (filter test (map f (range_with_len p k))) ≡ 0 → test (f i) ≡ false
nothing_kept test f p zero i above below none = absurd (omega arith)
nothing_kept test f p (suc k) i above below none =
    elim (cases_Bool (test (f p))) [
      | inl is ↦ absurd (no_less (sym (ap length (cond-true (test (f p)) (f p ∷ filter test (map f (range_with_len (p + 1) k))) _ is)) ∙ none))
      | inr not ↦
          elim (cases_eq p i) [
            | inl same ↦ ap (λ z. test (f z)) (sym same) ∙ not
            | inr apart ↦ nothing_kept test f (p + 1) k i (omega arith) (omega arith) (sym (ap length (cond-false (test (f p)) _ (filter test (map f (range_with_len (p + 1) k))) not)) ∙ none)
          ]
    ]
  where
    no_less : {n : ℕ} → suc n ≡ 0 → ⊥
    no_less e = cc
