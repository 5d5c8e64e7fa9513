-- What stands at each place of a list that is cut in two and joined again.
use Rattle.std.proofs.Common.{◌≡◌, ◌≢◌, ℕ, zero, suc, ◌+◌, ◌-◌, ◌<◌, ◌≤◌, Bool, true, false, cond, eqb, ltb, leb, List, [], ◌∷◌, ◌++◌, length, get_or, take, drop, Option, Some, None, refl, sym, ◌∙◌, ap, arith, inl, inr}
use Rattle.std.specs.List.{filter}
use Rattle.std.specs.List.Sorted.{IsNonDecreasingBy}
use Rattle.std.proofs.lemmas.Bool.{cond-true, cond-false, cond_both, cases_Bool, cases_lt, cases_eq, eq-eqb, ne_eqb, ltb-true, leb-true}
use Rattle.ds_places.specs.Places.{at_place, RisesFrom, IsWithin}

module _ {T : Type 0} (place : T → ℕ) where
  -- ---- order
  pub rises_weaken : (low high : ℕ) (xs : List T) → low ≤ high → RisesFrom place high xs → RisesFrom place low xs
  rises_weaken low high [] le h = tt
  rises_weaken low high (x ∷ xs) le h = (omega (arith, h.0), h.1)

  pub rises_get : (low : ℕ) (xs : List T) → RisesFrom place low xs → (k : ℕ) (d : T) → k < length xs → low ≤ place (get_or xs k d)
  rises_get low [] h k d lt = absurd (omega arith)
  rises_get low (x ∷ xs) h zero d lt = h.0
  rises_get low (x ∷ xs) h (suc k) d lt = let more = rises_get (place x + 1) xs h.1 k d (omega arith) in omega (arith, h.0, more)

  pub rises_order : (low : ℕ) (xs : List T) → RisesFrom place low xs → (i j : ℕ) (d : T) → i < j → j < length xs → place (get_or xs i d) < place (get_or xs j d)
  rises_order low [] h i j d before lt = absurd (omega arith)
  rises_order low (x ∷ xs) h zero zero d before lt = absurd (omega arith)
  rises_order low (x ∷ xs) h zero (suc j) d before lt = let more = rises_get (place x + 1) xs h.1 j d (omega arith) in omega (arith, more)
  rises_order low (x ∷ xs) h (suc i) zero d before lt = absurd (omega arith)
  rises_order low (x ∷ xs) h (suc i) (suc j) d before lt = rises_order (place x + 1) xs h.1 i j d (omega arith) (omega arith)

  pub never_falls : (low : ℕ) (xs : List T) → RisesFrom place low xs → IsNonDecreasingBy place xs
  never_falls low xs h i j d le lt =
      elim (cases_eq i j) [
        | inl same ↦ omega (arith, ap (λ k. place (get_or xs k d)) same)
        | inr apart ↦ let more = rises_order low xs h i j d (omega arith) lt in omega (arith, more)
      ]

  -- ---- what is held
  pub at_none : (xs : List T) (q : ℕ) → ((k : ℕ) (d : T) → k < length xs → place (get_or xs k d) ≢ q) → at_place place xs q ≡ None
  at_none [] q h = refl
  at_none (x ∷ xs) q h = cond-false (eqb (place x) q) _ _ (ne_eqb (place x) q (h 0 x (omega arith))) ∙ at_none xs q (λ k d lt. h (suc k) d (omega arith))

  pub at_held : (low : ℕ) (xs : List T) → RisesFrom place low xs → (k : ℕ) (d : T) → k < length xs → at_place place xs (place (get_or xs k d)) ≡ Some (get_or xs k d)
  at_held low [] h k d lt = absurd (omega arith)
  at_held low (x ∷ xs) h zero d lt = cond-true (eqb (place x) (place x)) _ _ (eq-eqb _ _ refl)
  at_held low (x ∷ xs) h (suc k) d lt =
      let more = rises_get (place x + 1) xs h.1 k d (omega arith) in
      cond-false (eqb (place x) (place (get_or xs k d))) _ _ (ne_eqb _ _ (λ same. omega (arith, more, same)))
      ∙ at_held (place x + 1) xs h.1 k d (omega arith)

  -- no more entries than places
  pub few : (low n : ℕ) (xs : List T) → RisesFrom place low xs → IsWithin place n xs → length xs ≤ n - low
  few low n [] h within = omega arith
  few low n (x ∷ xs) h within =
      elim (cases_lt (place x) n) [
        | inl lt ↦
            let more = few (place x + 1) n xs h.1 (λ q far. sym (cond-false (eqb (place x) q) _ _ (ne_eqb (place x) q (λ same. omega (arith, same)))) ∙ within q far) in
            omega (arith, more, h.0)
        | inr far ↦
            let both = sym (cond-true (eqb (place x) (place x)) (Some x) (at_place place xs (place x)) (eq-eqb _ _ refl)) ∙ within (place x) far in
            absurd cc
      ]

  -- ---- lists in two parts
  unfoldable pub either : Option T → Option T → Option T
  either (Some x) other = Some x
  either None other = other

  pub at_append : (xs ys : List T) (q : ℕ) → at_place place (xs ++ ys) q ≡ either (at_place place xs q) (at_place place ys q)
  unfolding either
  at_append [] ys q = refl
  at_append (x ∷ xs) ys q =
      elim (cases_Bool (eqb (place x) q)) [
        | inl same ↦ cond-true (eqb (place x) q) _ _ same ∙ sym (ap (λ o. either o (at_place place ys q)) (cond-true (eqb (place x) q) _ _ same))
        | inr apart ↦
            cond-false (eqb (place x) q) _ _ apart ∙ at_append xs ys q
            ∙ sym (ap (λ o. either o (at_place place ys q)) (cond-false (eqb (place x) q) _ _ apart))
      ]

  abbrev pub below : ℕ → List T → List T
  below q xs = filter (λ x. ltb (place x) q) xs

  abbrev pub beyond : ℕ → List T → List T
  beyond q xs = filter (λ x. leb q (place x)) xs

  both_none : (b : Bool) → cond {A = Option T} b None None ≡ None
  both_none true = refl
  both_none false = refl

  pub at_filter : (keep : ℕ → Bool) (xs : List T) (q : ℕ) → at_place place (filter (λ x. keep (place x)) xs) q ≡ cond (keep q) (at_place place xs q) None
  at_filter keep [] q = sym (both_none (keep q))
  at_filter keep (x ∷ xs) q =
      let more = at_filter keep xs q in
      elim (cases_eq (place x) q) [
        | inl same ↦
            let here : eqb (place x) q ≡ true = eq-eqb _ _ same in
            elim (cases_Bool (keep (place x))) [
              | inl kept ↦
                  ap (λ l. at_place place l q) (cond-true (keep (place x)) (x ∷ filter (λ y. keep (place y)) xs) (filter (λ y. keep (place y)) xs) kept)
                  ∙ cond-true (eqb (place x) q) _ _ here ∙ sym (cond-true (eqb (place x) q) _ _ here)
                  ∙ sym (cond-true (keep q) _ _ (ap keep (sym same) ∙ kept))
              | inr gone ↦
                  ap (λ l. at_place place l q) (cond-false (keep (place x)) (x ∷ filter (λ y. keep (place y)) xs) (filter (λ y. keep (place y)) xs) gone)
                  ∙ more ∙ cond-false (keep q) _ _ (ap keep (sym same) ∙ gone)
                  ∙ sym (cond-false (keep q) _ _ (ap keep (sym same) ∙ gone))
            ]
        | inr apart ↦
            let other : eqb (place x) q ≡ false = ne_eqb _ _ apart in
            elim (cases_Bool (keep (place x))) [
              | inl kept ↦
                  ap (λ l. at_place place l q) (cond-true (keep (place x)) (x ∷ filter (λ y. keep (place y)) xs) (filter (λ y. keep (place y)) xs) kept)
                  ∙ cond-false (eqb (place x) q) _ _ other ∙ more
                  ∙ ap (λ o. cond (keep q) o None) (sym (cond-false (eqb (place x) q) (Some x) (at_place place xs q) other))
              | inr gone ↦
                  ap (λ l. at_place place l q) (cond-false (keep (place x)) (x ∷ filter (λ y. keep (place y)) xs) (filter (λ y. keep (place y)) xs) gone)
                  ∙ more ∙ ap (λ o. cond (keep q) o None) (sym (cond-false (eqb (place x) q) (Some x) (at_place place xs q) other))
            ]
      ]

  pub rises_filter : (p : T → Bool) (low : ℕ) (xs : List T) → RisesFrom place low xs → RisesFrom place low (filter p xs)
  rises_filter p low [] h = tt
  rises_filter p low (x ∷ xs) h =
      let more = rises_filter p (place x + 1) xs h.1 in
      cond_both (p x) (x ∷ filter p xs) (filter p xs) (RisesFrom place low) (λ _. (h.0, more)) (λ _. rises_weaken low (place x + 1) (filter p xs) (omega (arith, h.0)) more)

  pub rises_beyond : (low q : ℕ) (xs : List T) → RisesFrom place low xs → RisesFrom place q (beyond q xs)
  rises_beyond low q [] h = tt
  rises_beyond low q (x ∷ xs) h =
      cond_both (leb q (place x)) (x ∷ beyond q xs) (beyond q xs) (RisesFrom place q)
      (λ from. (leb-true q (place x) from, rises_filter (λ y. leb q (place y)) (place x + 1) xs h.1)) (λ _. rises_beyond (place x + 1) q xs h.1)

  pub rises_join : (low q : ℕ) (xs ys : List T) → RisesFrom place low xs → low ≤ q → RisesFrom place q ys → RisesFrom place low (below q xs ++ ys)
  rises_join low q [] ys h le after = rises_weaken low q ys le after
  rises_join low q (x ∷ xs) ys h le after =
      cond_both (ltb (place x) q) (x ∷ below q xs) (below q xs) (λ l. RisesFrom place low (l ++ ys))
      (λ lt. (h.0, rises_join (place x + 1) q xs ys h.1 (let small : place x < q = ltb-true _ _ lt in omega arith) after))
      (λ _. rises_join low q xs ys (rises_weaken low (place x + 1) xs (omega (arith, h.0)) h.1) le after)

-- ---- the parts of a list that a test tells apart
pub none_kept : {T : Type 0} (p : T → Bool) (xs : List T) → ((k : ℕ) (d : T) → k < length xs → p (get_or xs k d) ≡ false) → [] ≡ filter p xs
none_kept p [] h = refl
none_kept p (x ∷ xs) h = none_kept p xs (λ k d lt. h (suc k) d (omega arith)) ∙ sym (cond-false (p x) _ _ (h 0 x (omega arith)))

pub all_kept : {T : Type 0} (p : T → Bool) (xs : List T) → ((k : ℕ) (d : T) → k < length xs → p (get_or xs k d) ≡ true) → xs ≡ filter p xs
all_kept p [] h = refl
all_kept p (x ∷ xs) h = ap (λ l. x ∷ l) (all_kept p xs (λ k d lt. h (suc k) d (omega arith))) ∙ sym (cond-true (p x) _ _ (h 0 x (omega arith)))

pub take_kept : {T : Type 0} (p : T → Bool) (xs : List T) (i : ℕ) → ((k : ℕ) (d : T) → k < i → k < length xs → p (get_or xs k d) ≡ true)
    → ((k : ℕ) (d : T) → i ≤ k → k < length xs → p (get_or xs k d) ≡ false) → take i xs ≡ filter p xs
take_kept p [] zero first others = refl
take_kept p [] (suc i) first others = refl
take_kept p (x ∷ xs) zero first others = none_kept p (x ∷ xs) (λ k d lt. others k d (omega arith) lt)
take_kept p (x ∷ xs) (suc i) first others =
    ap (λ l. x ∷ l) (take_kept p xs i (λ k d below lt. first (suc k) d (omega arith) (omega arith)) (λ k d from lt. others (suc k) d (omega arith) (omega arith)))
    ∙ sym (cond-true (p x) _ _ (first 0 x (omega arith) (omega arith)))

pub drop_kept : {T : Type 0} (p : T → Bool) (xs : List T) (i : ℕ) → ((k : ℕ) (d : T) → k < i → k < length xs → p (get_or xs k d) ≡ false)
    → ((k : ℕ) (d : T) → i ≤ k → k < length xs → p (get_or xs k d) ≡ true) → drop i xs ≡ filter p xs
drop_kept p [] zero first others = refl
drop_kept p [] (suc i) first others = refl
drop_kept p (x ∷ xs) zero first others = all_kept p (x ∷ xs) (λ k d lt. others k d (omega arith) lt)
drop_kept p (x ∷ xs) (suc i) first others =
    drop_kept p xs i (λ k d below lt. first (suc k) d (omega arith) (omega arith)) (λ k d from lt. others (suc k) d (omega arith) (omega arith))
    ∙ sym (cond-false (p x) _ _ (first 0 x (omega arith) (omega arith)))
