-- What stands in a list, by its index.
use Rattle.std.proofs.Common.{◌≡◌, ℕ, zero, suc, ◌+◌, ◌<◌, ◌≤◌, Bool, true, cond, List, [], ◌∷◌, ◌++◌, length, map, Option, Some, None, refl, sym, ◌∙◌, ap, subst, arith, inl, inr}
use Rattle.std.specs.Prelude.{nat_lt, position}
use Rattle.std.specs.List.{range_with_len, filter, flat_map, slice_get, find, position_or_len}
use Rattle.std.specs.Option.{option_map, option_to_list}
use Rattle.std.proofs.lemmas.Bool.{cond-true, cond-false, cases_Bool, ltb-true}
use Rattle.std.proofs.lemmas.List.Folds.{find_at}
use Rattle.std.proofs.lemmas.Option.{slice_get-map}

-- ---- each of a list's elements
abbrev pub Each : {X : Type 0} → (X → Type 0) → List X → Type 0
Each P [] = Unit {0}
Each P (x ∷ xs) = P x × Each P xs

pub some_same : {X : Type 0} (x y : X) → Some x ≡ Some y → x ≡ y
some_same x y e = cc

pub none_some : {X : Type 0} (x : X) → ◌≡◌ {A = Option X} None (Some x) → ⊥
none_some x e = cc

pub each_at : {X : Type 0} (P : X → Type 0) (xs : List X) (index : ℕ) (x : X) → Each P xs → slice_get xs index ≡ Some x → P x
each_at P [] index x all there = absurd (none_some x there)
each_at P (y ∷ xs) zero x all there = subst P (some_same y x there) all.0
each_at P (y ∷ xs) (suc index) x all there = each_at P xs index x all.1 there

pub each_append : {X : Type 0} (P : X → Type 0) (xs ys : List X) → Each P xs → Each P ys → Each P (xs ++ ys)
each_append P [] ys first others = others
each_append P (x ∷ xs) ys first others = (first.0, each_append P xs ys first.1 others)

pub each_flat : {X Y : Type 0} (P : Y → Type 0) (f : X → List Y) (xs : List X) → Each (λ x. Each P (f x)) xs → Each P (flat_map f xs)
each_flat P f [] all = tt
each_flat P f (x ∷ xs) all = each_append P (f x) (flat_map f xs) all.0 (each_flat P f xs all.1)

pub each_option : {X : Type 0} (P : X → Type 0) (o : Option X) → ((x : X) → o ≡ Some x → P x) → Each P (option_to_list o)
each_option P None all = tt
each_option P (Some x) all = (all x refl, tt)

pub each_map : {X Y : Type 0} (P : Y → Type 0) (f : X → Y) (xs : List X) → Each (λ x. P (f x)) xs → Each P (map f xs)
each_map P f [] all = tt
each_map P f (x ∷ xs) all = (all.0, each_map P f xs all.1)

pub each_kept : (P : ℕ → Type 0) (test : ℕ → Bool) (p k : ℕ) → ((q : ℕ) → q < p + k → test q ≡ true → P q) → Each P (filter test (range_with_len p k))
each_kept P test p zero all = tt
each_kept P test p (suc k) all =
    let others : Each P (filter test (range_with_len (p + 1) k)) = each_kept P test (p + 1) k (λ q below passes. all q (omega arith) passes) in
    elim (cases_Bool (test p)) [
      | inl passes ↦ subst (Each P) (sym (cond-true (test p) _ _ passes)) (all p (omega arith) passes, others)
      | inr misses ↦ subst (Each P) (sym (cond-false (test p) _ _ misses)) others
    ]

-- ---- where an element stands
abbrev pub IsIn : {X : Type 0} → X → List X → Type 0
IsIn x xs = (index : ℕ) × (slice_get xs index ≡ Some x)

pub in_range : (a n k : ℕ) → k < n → IsIn (a + k) (range_with_len a n)
in_range a zero k few = absurd (omega arith)
in_range a (suc n) zero few = (0, ap (λ x. Some x) (omega arith))
in_range a (suc n) (suc k) few =
    let more = in_range (a + 1) n k (omega arith) in
    let same : a + 1 + k ≡ a + suc k = omega arith in
    (suc more.0, more.1 ∙ ap (λ x. Some x) same)

kept_by : (test : ℕ → Bool) (x q : ℕ) (xs : List ℕ) → IsIn q (filter test xs) → IsIn q (filter test (x ∷ xs))
kept_by test x q xs there =
    elim (cases_Bool (test x)) [
      | inl passes ↦ (suc there.0, ap (λ ys. slice_get ys (suc there.0)) (cond-true (test x) _ _ passes) ∙ there.1)
      | inr misses ↦ (there.0, ap (λ ys. slice_get ys there.0) (cond-false (test x) _ _ misses) ∙ there.1)
    ]

kept_from : (test : ℕ → Bool) (q : ℕ) (xs : List ℕ) (index : ℕ) → test q ≡ true → slice_get xs index ≡ Some q → IsIn q (filter test xs)
kept_from test q [] index passes there = absurd (none_some q there)
kept_from test q (x ∷ xs) zero passes there =
    let same : x ≡ q = some_same x q there in
    (0, ap (λ ys. slice_get ys 0) (cond-true (test x) (x ∷ filter test xs) (filter test xs) (ap test same ∙ passes)) ∙ there)
kept_from test q (x ∷ xs) (suc index) passes there = kept_by test x q xs (kept_from test q xs index passes there)

-- what passes is kept
pub in_filter : (test : ℕ → Bool) (q : ℕ) (xs : List ℕ) → test q ≡ true → IsIn q xs → IsIn q (filter test xs)
in_filter test q xs passes there = kept_from test q xs there.0 passes there.1

pub in_map : {X : Type 0} (f : ℕ → X) (q : ℕ) (xs : List ℕ) → IsIn q xs → IsIn (f q) (map f xs)
in_map f q xs there = (there.0, slice_get-map f xs there.0 ∙ ap (option_map f) there.1)

-- ---- the first that passes
inside_some : {X : Type 0} (xs : List X) (index : ℕ) → index < length xs → slice_get xs index ≡ None → ⊥
inside_some [] index inside past = omega arith
inside_some (x ∷ xs) zero inside past = none_some x (sym past)
inside_some (x ∷ xs) (suc index) inside past = inside_some xs index (omega arith) past

pub position_there : {X : Type 0} (test : X → Bool) (xs : List X) (index : ℕ) → position test xs ≡ Some index → slice_get xs index ≡ None → ⊥
position_there test xs index found past =
    elim (cases_Bool (nat_lt (position_or_len test xs) (length xs))) [
      | inl inside ↦
          let same : position_or_len test xs ≡ index = some_same _ index (sym (cond-true (nat_lt (position_or_len test xs) (length xs)) _ _ inside) ∙ found) in
          let lt : position_or_len test xs < length xs = ltb-true (position_or_len test xs) (length xs) inside in
          inside_some xs index (omega arith) past
      | inr none ↦ none_some index (sym (cond-false (nat_lt (position_or_len test xs) (length xs)) _ _ none) ∙ found)
    ]

-- the first that passes passes
found_passes : {X : Type 0} (test : X → Bool) (xs : List X) (x : X) → find test xs ≡ Some x → test x ≡ true
found_passes test [] x found = absurd (none_some x found)
found_passes test (y ∷ ys) x found =
    elim (cases_Bool (test y)) [
      | inl passes ↦ ap test (sym (some_same y x (sym (cond-true (test y) (Some y) (find test ys) passes) ∙ found))) ∙ passes
      | inr misses ↦ found_passes test ys x (sym (cond-false (test y) (Some y) (find test ys) misses) ∙ found)
    ]

pub position_passes : {X : Type 0} (test : X → Bool) (xs : List X) (index : ℕ) (x : X) → position test xs ≡ Some index → slice_get xs index ≡ Some x → test x ≡ true
position_passes test xs index x found there =
    elim (cases_Bool (nat_lt (position_or_len test xs) (length xs))) [
      | inl inside ↦
          let same : position_or_len test xs ≡ index = some_same _ index (sym (cond-true (nat_lt (position_or_len test xs) (length xs)) _ _ inside) ∙ found) in
          found_passes test xs x (find_at test xs ∙ ap (slice_get xs) same ∙ there)
      | inr none ↦ absurd (none_some index (sym (cond-false (nat_lt (position_or_len test xs) (length xs)) _ _ none) ∙ found))
    ]

-- ---- lists that all pass, and lists that agree
pub full_length : {X : Type 0} (test : X → Bool) (f : ℕ → X) (g : ℕ → ℕ) (a m : ℕ) → ((i : ℕ) → a ≤ i → i < a + m → test (f (g i)) ≡ true)
    → length (filter test (map f (map g (range_with_len a m)))) ≡ m
full_length test f g a zero passes = refl
full_length test f g a (suc m) passes =
    ap length (cond-true (test (f (g a))) _ _ (passes a (omega arith) (omega arith)))
    ∙ ap suc (full_length test f g (a + 1) m (λ i from below. passes i (omega arith) (omega arith)))

pub same_map : {X : Type 0} (f h : ℕ → X) (g : ℕ → ℕ) (a m : ℕ) → ((i : ℕ) → a ≤ i → i < a + m → f (g i) ≡ h (g i))
    → map f (map g (range_with_len a m)) ≡ map h (map g (range_with_len a m))
same_map f h g a zero agree = refl
same_map f h g a (suc m) agree =
    ap (λ x. x ∷ map f (map g (range_with_len (a + 1) m))) (agree a (omega arith) (omega arith))
    ∙ ap (λ rest. h (g a) ∷ rest) (same_map f h g (a + 1) m (λ i from below. agree i (omega arith) (omega arith)))

pub same_filter : (test other : ℕ → Bool) (xs : List ℕ) → ((q : ℕ) → test q ≡ other q) → filter test xs ≡ filter other xs
same_filter test other [] agree = refl
same_filter test other (x ∷ xs) agree =
    ap (λ b. cond b (x ∷ filter test xs) (filter test xs)) (agree x) ∙ ap (λ rest. cond (other x) (x ∷ rest) rest) (same_filter test other xs agree)
