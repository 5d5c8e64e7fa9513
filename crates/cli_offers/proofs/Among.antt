-- What is among the elements of a list, and lists in which each element comes before those that follow it.
use Rattle.std.proofs.Common.{◌≡◌, ◌∙◌, ℕ, zero, suc, ◌+◌, ◌<◌, ◌≤◌, ◌⊎◌, inl, inr, ⊎_elim, Bool, true, false, List, [], ◌∷◌, ◌++◌, sym, ap₂, refl, subst, arith, true≢false}
use Rattle.std.specs.Prelude.{if◌then◌else◌}
use Rattle.std.specs.List.{flat_map, range_with_len}
use Rattle.std.proofs.lemmas.Bool.{cases_lt}
use Rattle.cli_offers.specs.Judged.{IsAmong, AreRising}

module _ {A : Type 0} where
  pub among_left : (x : A) (xs ys : List A) → IsAmong x xs → IsAmong x (xs ++ ys)
  among_left x [] ys is = absurd is
  among_left x (z ∷ xs) ys (inl same) = inl same
  among_left x (z ∷ xs) ys (inr later) = inr (among_left x xs ys later)

  pub among_right : (x : A) (xs ys : List A) → IsAmong x ys → IsAmong x (xs ++ ys)
  among_right x [] ys is = is
  among_right x (z ∷ xs) ys is = inr (among_right x xs ys is)

  pub among_cases : (x : A) (xs ys : List A) → IsAmong x (xs ++ ys) → IsAmong x xs ⊎ IsAmong x ys
  among_cases x [] ys is = inr is
  among_cases x (z ∷ xs) ys (inl same) = inl (inl same)
  among_cases x (z ∷ xs) ys (inr later) = ⊎_elim (λ left. inl (inr left)) (λ right. inr right) (among_cases x xs ys later)

  -- what is there where a test holds
  pub among_if : (b : Bool) (x : A) (xs : List A) → b ≡ true → IsAmong x xs → IsAmong x (if b then xs else [])
  among_if true x xs is there = there
  among_if false x xs is there = absurd (true≢false (sym is))

  pub from_if : (b : Bool) (x : A) (xs : List A) → IsAmong x (if b then xs else []) → (b ≡ true) × IsAmong x xs
  from_if true x xs there = (refl, there)
  from_if false x xs there = absurd there

  pub from_one : (x y : A) → IsAmong y (x ∷ []) → y ≡ x
  from_one x y (inl same) = same
  from_one x y (inr is) = absurd is

  pub among_chosen : (b : Bool) (x : A) → b ≡ true → IsAmong x (if b then x ∷ [] else [])
  among_chosen b x is = among_if b x (x ∷ []) is (inl refl)

  pub from_chosen : (b : Bool) (x y : A) → IsAmong y (if b then x ∷ [] else []) → (b ≡ true) × (y ≡ x)
  from_chosen b x y there = let is = from_if b y (x ∷ []) there in (is.0, from_one x y is.1)

  module _ (Before : A → A → Type 0) where
    pub rising_append : (xs ys : List A) → AreRising Before xs → AreRising Before ys → ((x y : A) → IsAmong x xs → IsAmong y ys → Before x y) → AreRising Before (xs ++ ys)
    rising_append [] ys rising_xs rising_ys across = rising_ys
    rising_append (z ∷ xs) ys (first, rest) rising_ys across = (
      λ y is. ⊎_elim (λ left. first y left) (λ right. across z y (inl refl) right) (among_cases y xs ys is),
      rising_append xs ys rest rising_ys (λ x y is_x is_y. across x y (inr is_x) is_y),
    )

    pub rising_if : (b : Bool) (xs : List A) → AreRising Before xs → AreRising Before (if b then xs else [])
    rising_if true xs rising = rising
    rising_if false xs rising = tt

    pub rising_chosen : (b : Bool) (x : A) → AreRising Before (if b then x ∷ [] else [])
    rising_chosen b x = rising_if b (x ∷ []) (λ y is. absurd is, tt)

    -- two such lists of the same elements are the same, where of no two each comes before the other
    pub same_rising : ((x y : A) → Before x y → Before y x → ⊥) → (xs ys : List A) → AreRising Before xs → AreRising Before ys
        → ((x : A) → IsAmong x xs → IsAmong x ys) → ((x : A) → IsAmong x ys → IsAmong x xs) → xs ≡ ys
    same_rising once [] [] rising_xs rising_ys to from = refl
    same_rising once [] (y ∷ ys) rising_xs rising_ys to from = absurd (from y (inl refl))
    same_rising once (x ∷ xs) [] rising_xs rising_ys to from = absurd (to x (inl refl))
    same_rising once (x ∷ xs) (y ∷ ys) (first_x, rest_x) (first_y, rest_y) to from =
        ap₂ (λ z zs. z ∷ zs) heads (same_rising once xs ys rest_x rest_y
        (λ z is. other z y ys (to z (inr is)) (λ same. never x (subst (Before x) (same ∙ sym heads) (first_x z is))))
        (λ z is. other z x xs (from z (inr is)) (λ same. never y (subst (Before y) (same ∙ heads) (first_y z is)))))
      where
        never : (z : A) → Before z z → ⊥
        never z before = once z z before before

        other : (z w : A) (zs : List A) → IsAmong z (w ∷ zs) → (z ≡ w → ⊥) → IsAmong z zs
        other z w zs (inl same) differs = absurd (differs same)
        other z w zs (inr later) differs = later

        heads : x ≡ y
        heads = ⊎_elim (λ same. same) (λ later. ⊎_elim (λ same. sym same) (λ after. absurd (once x y (first_x y after) (first_y x later))) (from y (inl refl))) (to x (inl refl))

module _ {A B : Type 0} (f : A → List B) where
  pub among_flat_map : (x : A) (y : B) (xs : List A) → IsAmong x xs → IsAmong y (f x) → IsAmong y (flat_map f xs)
  among_flat_map x y [] is there = absurd is
  among_flat_map x y (z ∷ xs) (inl same) there = among_left y (f z) (flat_map f xs) (subst (λ w. IsAmong y (f w)) same there)
  among_flat_map x y (z ∷ xs) (inr later) there = among_right y (f z) (flat_map f xs) (among_flat_map x y xs later there)

  pub from_flat_map : (y : B) (xs : List A) → IsAmong y (flat_map f xs) → (x : A) × IsAmong x xs × IsAmong y (f x)
  from_flat_map y [] is = absurd is
  from_flat_map y (z ∷ xs) is = ⊎_elim (λ here. (z, inl refl, here)) (λ later. next (from_flat_map y xs later)) (among_cases y (f z) (flat_map f xs) is)
    where
      next : (x : A) × IsAmong x xs × IsAmong y (f x) → (x : A) × IsAmong x (z ∷ xs) × IsAmong y (f x)
      next (x, is_x, there) = (x, inr is_x, there)

  pub rising_flat_map : (Before : A → A → Type 0) (After : B → B → Type 0) (xs : List A) → AreRising Before xs → ((x : A) → IsAmong x xs → AreRising After (f x))
      → ((x z : A) (y w : B) → IsAmong x xs → IsAmong z xs → Before x z → IsAmong y (f x) → IsAmong w (f z) → After y w) → AreRising After (flat_map f xs)
  rising_flat_map Before After [] rising each across = tt
  rising_flat_map Before After (z ∷ xs) (first, rest) each across =
      rising_append After (f z) (flat_map f xs) (each z (inl refl)) (rising_flat_map Before After xs rest (λ x is. each x (inr is)) (λ x v y w is_x is_v. across x v y w (inr is_x) (inr is_v)))
      (λ y w here later. joined y w here (from_flat_map w xs later))
    where
      joined : (y w : B) → IsAmong y (f z) → (x : A) × IsAmong x xs × IsAmong w (f x) → After y w
      joined y w here (x, is_x, there) = across z x y w (inl refl) (inr is_x) (first x is_x) here there

-- ---- ranges

pub among_range : (low count n : ℕ) → low ≤ n → n < low + count → IsAmong n (range_with_len low count)
among_range low zero n from below = absurd (nowhere low n from below)
  where
    nowhere : (low n : ℕ) → low ≤ n → n < low + 0 → ⊥
    nowhere low n from below = omega (arith, from, below)
among_range low (suc count) n from below = ⊎_elim (λ same. inl same) (λ later. inr (among_range (low + 1) count n later (omega (arith, below)))) (here_or_later low n from)
  where
    here_or_later : (low n : ℕ) → low ≤ n → (n ≡ low) ⊎ (low + 1 ≤ n)
    here_or_later low n from = ⊎_elim (λ less. inr (omega (arith, less))) (λ most. inl (omega (arith, most, from))) (cases_lt low n)

pub from_range : (low count n : ℕ) → IsAmong n (range_with_len low count) → (low ≤ n) × (n < low + count)
from_range low zero n is = absurd is
from_range low (suc count) n (inl same) = (omega (arith, same), omega (arith, same))
from_range low (suc count) n (inr later) = wider (from_range (low + 1) count n later)
  where
    wider : (low + 1 ≤ n) × (n < low + 1 + count) → (low ≤ n) × (n < low + suc count)
    wider (from, below) = (omega (arith, from), omega (arith, below))

pub rising_range : (low count : ℕ) → AreRising (λ m n. m < n) (range_with_len low count)
rising_range low zero = tt
rising_range low (suc count) = (λ n is. later n (from_range (low + 1) count n is).0, rising_range (low + 1) count)
  where
    later : (n : ℕ) → low + 1 ≤ n → low < n
    later n from = omega (arith, from)
