-- Lists of screens, and ways, one before the other.
use Rattle.std.proofs.Common.{◌≡◌, ◌∙◌, ℕ, zero, suc, ◌+◌, ◌<◌, inl, inr, ⊎_elim, true, List, [], ◌∷◌, ◌++◌, length, sym, ap, refl, arith, length-append}
use Rattle.std.specs.List.{range_with_len}
use Rattle.cli_offers.specs.Ways.{Shown, Way, all_of, all_on, fresh, is_over, on_at, ways_of, ways_on, ways_over, ways_up_to, with_screen}
use Rattle.cli_offers.specs.Judged.{AreRising, IsAmong, IsLess, Precedes}
use Rattle.cli_offers.proofs.Among.{from_chosen, rising_chosen, rising_flat_map, rising_range}
use Rattle.cli_offers.proofs.Chains.{from_of}
use Rattle.cli_offers.proofs.Firsts.{from_on, rising_fresh}

-- ---- lists

never : (m n : ℕ) → m < n → n < m → ⊥
never m n less more = omega (arith, less, more)

never_same : (m n : ℕ) → m < n → m ≡ n → ⊥
never_same m n less same = omega (arith, less, same)

less_once : (a b : List ℕ) → IsLess a b → IsLess b a → ⊥
less_once [] b less more = less
less_once (m ∷ a) [] less more = less
less_once (m ∷ a) (n ∷ b) less more = ⊎_elim
    (λ first. ⊎_elim (λ other. never m n first other) (λ (same, _). never_same m n first (sym same)) more)
    (λ (same, rest). ⊎_elim (λ other. never_same n m other (sym same)) (λ (_, other). less_once a b rest other) more) less

pub precedes_once : (a b : List ℕ) → Precedes a b → Precedes b a → ⊥
precedes_once a b less more = ⊎_elim
    (λ fewer. ⊎_elim (λ other. never (length a) (length b) fewer other) (λ (same, _). never_same (length a) (length b) fewer (sym same)) more)
    (λ (same, rest). ⊎_elim (λ other. never_same (length b) (length a) other (sym same)) (λ (_, other). less_once a b rest other) more) less

less_last : (a : List ℕ) (m n : ℕ) → m < n → IsLess (a ++ m ∷ []) (a ++ n ∷ [])
less_last [] m n less = inl less
less_last (q ∷ a) m n less = inr (refl, less_last a m n less)

less_longer : (a b more others : List ℕ) → IsLess a b → IsLess (a ++ more) (b ++ others)
less_longer [] b more others less = absurd less
less_longer (m ∷ a) [] more others less = absurd less
less_longer (m ∷ a) (n ∷ b) more others (inl first) = inl first
less_longer (m ∷ a) (n ∷ b) more others (inr (same, rest)) = inr (same, less_longer a b more others rest)

one_longer : (a : List ℕ) (m : ℕ) → length (a ++ m ∷ []) ≡ suc (length a)
one_longer a m = length-append a (m ∷ []) ∙ one_more (length a)
  where
    one_more : (n : ℕ) → n + 1 ≡ suc n
    one_more n = omega arith

pub precedes_last : (a : List ℕ) (m n : ℕ) → m < n → Precedes (a ++ m ∷ []) (a ++ n ∷ [])
precedes_last a m n less = inr (one_longer a m ∙ sym (one_longer a n), less_last a m n less)

pub precedes_longer : (a b : List ℕ) (m n : ℕ) → Precedes a b → Precedes (a ++ m ∷ []) (b ++ n ∷ [])
precedes_longer a b m n (inl fewer) = inl (rw (one_longer a m, one_longer b n) (longer (length a) (length b) fewer))
  where
    longer : (c d : ℕ) → c < d → suc c < suc d
    longer c d less = omega (arith, less)
precedes_longer a b m n (inr (same, less)) = inr (one_longer a m ∙ ap suc same ∙ sym (one_longer b n), less_longer a b (m ∷ []) (n ∷ []) less)

-- ---- ways over one screen

abbrev pub OthersPrecede : Way → Way → Type 0
OthersPrecede v w = Precedes v.others w.others

module _ {A : Type 0} (Before After : A → A → Type 0) where
  pub rising_by : (xs : List A) → ((x y : A) → IsAmong x xs → IsAmong y xs → Before x y → After x y) → AreRising Before xs → AreRising After xs
  rising_by [] by rising = tt
  rising_by (x ∷ xs) by (first, rest) = (λ y is. by x y (inl refl) (inr is) (first y is), rising_by xs (λ y z is_y is_z. by y z (inr is_y) (inr is_z)) rest)

module _ (shown : Shown) where
  rising_on : (way : Way) → AreRising OthersPrecede (ways_on shown way)
  rising_on way = rising_flat_map (on_at shown way) (λ m n. m < n) OthersPrecede (all_of shown) (rising_range 0 (length shown.plans))
      (λ n is. rising_chosen OthersPrecede (is_over shown way.last n) (with_screen way n))
      (λ m n v w is_m is_n less is_v is_w. across m n v w less (from_chosen (is_over shown way.last m) (with_screen way m) v is_v).1 (from_chosen (is_over shown way.last n) (with_screen way n) w is_w).1)
    where
      across : (m n : ℕ) (v w : Way) → m < n → v ≡ with_screen way m → w ≡ with_screen way n → OthersPrecede v w
      across m n v w less v_is w_is = rw (v_is, w_is) (precedes_last way.others m n less)

  pub rising_all_on : (ways : List Way) → AreRising OthersPrecede ways → AreRising OthersPrecede (all_on shown ways)
  rising_all_on ways rising = rising_flat_map (ways_on shown) OthersPrecede OthersPrecede ways rising (λ way is. rising_on way)
      (λ before after v w is_before is_after earlier is_v is_w. across before after v w earlier (from_on shown before v is_v) (from_on shown after w is_w))
    where
      across : (before after v w : Way) → OthersPrecede before after → (m : ℕ) × (m < length shown.plans) × (is_over shown before.last m ≡ true) × (v ≡ with_screen before m)
          → (n : ℕ) × (n < length shown.plans) × (is_over shown after.last n ≡ true) × (w ≡ with_screen after n) → OthersPrecede v w
      across before after v w earlier (m, _, _, v_is) (n, _, _, w_is) = rw (v_is, w_is) (precedes_longer before.others after.others m n earlier)

  rising_of : (p count : ℕ) → AreRising OthersPrecede (ways_of shown p count)
  rising_of p zero = (λ way is. absurd is, tt)
  rising_of p (suc count) = rising_all_on (ways_of shown p count) (rising_of p count)

  pub rising_up_to : (p count : ℕ) → AreRising OthersPrecede (ways_up_to shown p count)
  rising_up_to p count = rising_flat_map (ways_of shown p) (λ m n. m < n) OthersPrecede (range_with_len 1 count) (rising_range 1 count) (λ long is. rising_of p long)
      (λ m n v w is_m is_n less is_v is_w. inl (fewer m n v w less (from_of shown p m v is_v).long (from_of shown p n w is_w).long))
    where
      fewer : (m n : ℕ) (v w : Way) → m < n → length v.others ≡ m → length w.others ≡ n → length v.others < length w.others
      fewer m n v w less v_is w_is = omega (arith, less, v_is, w_is)

  pub rising_over : (p : ℕ) → AreRising OthersPrecede (ways_over shown p)
  rising_over p = rising_all_on (fresh [] (ways_up_to shown p (length shown.plans))) (rising_fresh OthersPrecede [] (ways_up_to shown p (length shown.plans)) (rising_up_to p (length shown.plans)))
