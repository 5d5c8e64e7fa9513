-- Screens that come one over the other.
use Rattle.std.proofs.Common.{◌≡◌, ◌≢◌, ◌∙◌, ℕ, zero, suc, ◌+◌, ◌<◌, ◌≤◌, inl, inr, ⊎_elim, Bool, true, false, not, ◌||◌, eqb, List, [], ◌∷◌, ◌++◌, length, sym, ap, ap₂, subst, refl, arith, append-nil, append_assoc, length-append, true≢false, eqb-true}
use Rattle.std.specs.Prelude.{◌==◌, slice_get}
use Rattle.std.specs.List.{AllByRecursion, IsDistinct, range_with_len}
use Rattle.std.proofs.lemmas.Bool.{and_parts, not-true, or_cases}
use Rattle.std.proofs.lemmas.Map.Steps.{length-le_from_distinct_below}
use Rattle.cli_offers.specs.Ways.{Shown, Way, all_on, alone, is_erased, is_known, is_over, leads_on, ways_of, ways_on, ways_up_to, with_screen}
use Rattle.cli_offers.specs.Judged.{Erases, GoesOn, IsAmong, IsOver}
use Rattle.cli_offers.proofs.Among.{among_flat_map, among_range, from_flat_map, from_range}
use Rattle.cli_offers.proofs.Firsts.{from_on, on_among}

module _ (shown : Shown) where
  pub goes_further : (p s n : ℕ) (others : List ℕ) → GoesOn shown p others s → IsOver shown s n → GoesOn shown p (others ++ n ∷ []) n
  goes_further p s n [] same over = (subst (λ q. IsOver shown q n) (sym same) over, refl)
  goes_further p s n (q ∷ others) (first, rest) over = (first, goes_further q s n others rest over)

  -- the last is the one to which it goes
  pub ends_there : (p s : ℕ) (others : List ℕ) → GoesOn shown p others s → (front : List ℕ) × (p ∷ others ≡ front ++ s ∷ [])
  ends_there p s [] same = ([], ap (λ q. q ∷ []) same)
  ends_there p s (q ∷ others) (first, rest) = next (ends_there q s others rest)
    where
      next : (front : List ℕ) × (q ∷ others ≡ front ++ s ∷ []) → (front : List ℕ) × (p ∷ q ∷ others ≡ front ++ s ∷ [])
      next (front, same) = (p ∷ front, ap (λ l. p ∷ l) same)

  -- a screen that comes over another doesn't erase
  pub over_keeps : (s n : ℕ) → is_over shown s n ≡ true → is_erased shown n ≡ false
  over_keeps s n over = not-true (is_erased shown n) (and_parts (not (is_erased shown n)) ((s == n) || leads_on (slice_get shown.plans s) n) over).0

  pub end_keeps : (p s q : ℕ) (others : List ℕ) → GoesOn shown p (q ∷ others) s → is_erased shown s ≡ false
  end_keeps p s q [] (first, same) = subst (λ n. is_erased shown n ≡ false) same (over_keeps p q first.1)
  end_keeps p s q (r ∷ others) (first, rest) = end_keeps q s r others rest

  -- so none comes back to one that does
  pub goes_away : (p s : ℕ) (others : List ℕ) → Erases shown p → GoesOn shown p others s → is_erased shown s ≡ false → others ≢ []
  goes_away p s [] erases same keeps none = true≢false (sym erases.1 ∙ ap (is_erased shown) same ∙ keeps)
  goes_away p s (q ∷ others) erases goes keeps none = some none
    where
      some : q ∷ others ≡ [] → ⊥
      some none = never (ap length none)
        where
          never : suc (length others) ≡ 0 → ⊥
          never none = omega (arith, none)

-- ---- with no screen twice

differs : (p : ℕ) (others : List ℕ) → is_known others p ≡ false → AllByRecursion (λ q. eqb p q ≡ false) others
differs p [] new = tt
differs p (q ∷ others) new = let parts = or_parts (p == q) (is_known others p) new in (parts.0, differs p others parts.1)
  where
    or_parts : (a b : Bool) → (a || b) ≡ false → (a ≡ false) × (b ≡ false)
    or_parts true b is = absurd (true≢false is)
    or_parts false b is = (refl, is)

module _ (shown : Shown) where
  below : (p s : ℕ) (others : List ℕ) → GoesOn shown p others s → (q : ℕ) → is_known others q ≡ true → q < length shown.plans
  below p s [] same q is = absurd (true≢false (sym is))
  below p s (r ∷ others) (first, rest) q is = ⊎_elim (λ here. subst (λ n. n < length shown.plans) (sym (eqb-true q r here)) first.0) (λ later. below r s others rest q later) (or_cases (q == r) (is_known others q) is)

  -- from where it passes a screen it goes on from that one
  cut_at : (p q s : ℕ) (others : List ℕ) → GoesOn shown q others s → IsDistinct eqb (q ∷ others) → is_known (q ∷ others) p ≡ true
      → (fewer : List ℕ) × GoesOn shown p fewer s × IsDistinct eqb (p ∷ fewer)
  unfolding IsDistinct
  cut_at p q s [] goes apart is = ⊎_elim (λ here. ([], eqb-true p q here ∙ goes, (tt, tt))) (λ none. absurd (true≢false (sym none))) (or_cases (p == q) false is)
  cut_at p q s (r ∷ others) goes apart is = ⊎_elim
      (λ here. (r ∷ others, subst (λ n. GoesOn shown n (r ∷ others) s) (sym (eqb-true p q here)) goes, subst (λ n. IsDistinct eqb (n ∷ r ∷ others)) (sym (eqb-true p q here)) apart))
      (λ later. cut_at p r s others goes.1 apart.1 later)
      (or_cases (p == q) (is_known (r ∷ others) p) is)

  shorter : (p s : ℕ) (others : List ℕ) → GoesOn shown p others s → (fewer : List ℕ) × GoesOn shown p fewer s × IsDistinct eqb (p ∷ fewer)
  unfolding IsDistinct
  shorter p s [] same = ([], same, (tt, tt))
  shorter p s (q ∷ others) (first, rest) = next (shorter q s others rest)
    where
      next : (fewer : List ℕ) × GoesOn shown q fewer s × IsDistinct eqb (q ∷ fewer) → (fewer : List ℕ) × GoesOn shown p fewer s × IsDistinct eqb (p ∷ fewer)
      next (fewer, goes, apart) =
          elim (is_known (q ∷ fewer) p) as (λ b. is_known (q ∷ fewer) p ≡ b → (fewer : List ℕ) × GoesOn shown p fewer s × IsDistinct eqb (p ∷ fewer)) [
            | true ↦ λ is. cut_at p q s fewer goes apart is
            | false ↦ λ new. (q ∷ fewer, (first, goes), (differs p (q ∷ fewer) new, apart))
          ] refl

  -- where a way leads, one leads that is shorter than there are screens
  pub goes_within : (p s : ℕ) (others : List ℕ) → p < length shown.plans → GoesOn shown p others s → (fewer : List ℕ) × GoesOn shown p fewer s × (length fewer < length shown.plans)
  goes_within p s others low goes = next (shorter p s others goes)
    where
      next : (fewer : List ℕ) × GoesOn shown p fewer s × IsDistinct eqb (p ∷ fewer) → (fewer : List ℕ) × GoesOn shown p fewer s × (length fewer < length shown.plans)
      next (fewer, goes, apart) = (
        fewer,
        goes,
        length-le_from_distinct_below (p ∷ fewer) (length shown.plans) apart
            (λ q is. ⊎_elim (λ here. subst (λ n. n < length shown.plans) (sym (eqb-true q p here)) low) (λ later. below p s fewer goes q later) (or_cases (q == p) (is_known fewer q) is)),
      )

-- ---- the ways of so many screens are all that go on so

module _ (shown : Shown) where
  further : ℕ → List Way → List Way
  further zero ways = ways
  further (suc count) ways = further count (all_on shown ways)

  further_on : (count : ℕ) (ways : List Way) → all_on shown (further count ways) ≡ further count (all_on shown ways)
  unfolding further
  further_on zero ways = refl
  further_on (suc count) ways = further_on count (all_on shown ways)

  of_further : (p count : ℕ) → further count (alone p ∷ []) ≡ ways_of shown p count
  unfolding further
  of_further p zero = refl
  of_further p (suc count) = sym (further_on count (alone p ∷ [])) ∙ ap (all_on shown) (of_further p count)

  abbrev pub way_by : ℕ → List ℕ → ℕ → Way
  way_by p others s = record { first = p; others = others; last = s }

  goes_among : (others : List ℕ) (s : ℕ) (way : Way) (ways : List Way) → IsAmong way ways → GoesOn shown way.last others s → IsAmong (way_by way.first (way.others ++ others) s) (further (length others) ways)
  unfolding further
  goes_among [] s way ways is same = subst (λ w. IsAmong w ways) (ap₂ (λ o n. way_by way.first o n) (sym (append-nil way.others)) same) is
  goes_among (q ∷ others) s way ways is (first, rest) =
      subst (λ o. IsAmong (way_by way.first o s) (further (length others) (all_on shown ways))) (append_assoc way.others (q ∷ []) others)
      (goes_among others s (with_screen way q) (all_on shown ways) (among_flat_map (ways_on shown) way (with_screen way q) ways is (on_among shown way q first.0 first.1)) rest)

  pub among_of : (p s : ℕ) (others : List ℕ) → GoesOn shown p others s → IsAmong (way_by p others s) (ways_of shown p (length others))
  among_of p s others goes = subst (IsAmong (way_by p others s)) (of_further p (length others)) (goes_among others s (alone p) (alone p ∷ []) (inl refl) goes)

  pub among_up_to : (p s count : ℕ) (others : List ℕ) → GoesOn shown p others s → others ≢ [] → length others ≤ count → IsAmong (way_by p others s) (ways_up_to shown p count)
  among_up_to p s count others goes some few = among_flat_map (ways_of shown p) (length others) (way_by p others s) (range_with_len 1 count) (among_range 1 count (length others) (at_least others some) (omega (arith, few))) (among_of p s others goes)
    where
      at_least : (others : List ℕ) → others ≢ [] → 1 ≤ length others
      at_least [] some = absurd (some refl)
      at_least (q ∷ others) some = omega arith

  -- what is said of a way of so many screens
  pub record GoesBy (p count : ℕ) (way : Way) : Type 0 where
    pub begins : way.first ≡ p
    pub goes : GoesOn shown p way.others way.last
    pub long : length way.others ≡ count

  pub from_of : (p count : ℕ) (way : Way) → IsAmong way (ways_of shown p count) → GoesBy p count way
  from_of p zero way (inl same) = subst (GoesBy p zero) (sym same) (record { begins = refl; goes = refl; long = refl })
  from_of p zero way (inr is) = absurd is
  from_of p (suc count) way is = next (from_of p count) (from_flat_map (ways_on shown) way (ways_of shown p count) is)
    where
      longer : (before : Way) (n : ℕ) → GoesBy p count before → IsOver shown before.last n → GoesBy p (suc count) (with_screen before n)
      longer before n by over = record {
        begins = by.begins;
        goes = goes_further shown p before.last n before.others by.goes over;
        long = rw (length-append before.others (n ∷ [])) (omega (arith, by.long));
      }

      on : (before : Way) → GoesBy p count before → (n : ℕ) × (n < length shown.plans) × (is_over shown before.last n ≡ true) × (way ≡ with_screen before n) → GoesBy p (suc count) way
      on before by (n, low, over, same) = subst (GoesBy p (suc count)) (sym same) (longer before n by (low, over))

      next : ((before : Way) → IsAmong before (ways_of shown p count) → GoesBy p count before) → (before : Way) × IsAmong before (ways_of shown p count) × IsAmong way (ways_on shown before) → GoesBy p (suc count) way
      next by (before, among, is_on) = on before (by before among) (from_on shown before way is_on)

  pub from_up_to : (p count : ℕ) (way : Way) → IsAmong way (ways_up_to shown p count) → (long : ℕ) × (0 < long) × (long ≤ count) × GoesBy p long way
  from_up_to p count way is = next (from_flat_map (ways_of shown p) way (range_with_len 1 count) is)
    where
      within : (long : ℕ) → (1 ≤ long) × (long < 1 + count) → long ≤ count
      within long (from, below) = omega (arith, below)

      next : (long : ℕ) × IsAmong long (range_with_len 1 count) × IsAmong way (ways_of shown p long) → (long : ℕ) × (0 < long) × (long ≤ count) × GoesBy p long way
      next (long, among, is_of) = let inside = from_range 1 count long among in (long, inside.0, within long inside, from_of p long way is_of)
