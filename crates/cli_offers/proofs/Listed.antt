-- What is said of the list of ways.
use Rattle.std.proofs.Common.{◌≡◌, ◌≢◌, ◌∙◌, ◌↔◌, ℕ, suc, ◌<◌, ◌+◌, ◌⊎◌, inl, inr, ⊎_elim, true, false, ◌||◌, not, ◌&&◌, List, [], ◌∷◌, ◌++◌, length, sym, ap, subst, refl, arith, append_assoc, length-append, zero-le, eq-eqb, true≢false}
use Rattle.std.specs.Prelude.{◌==◌, slice_get}
use Rattle.std.specs.List.{flat_map}
use Rattle.std.proofs.lemmas.Bool.{or_left}
use Rattle.cli_offers.specs.Ways.{Shown, Way, all_of, alone, alone_at, is_alone, is_erased, is_over, leads_on, over_at, ways, ways_over, with_screen}
use Rattle.cli_offers.specs.Judged.{AreRising, AreThoseJudged, ComesBefore, EachBeginIsJudged, EachIsLawful, EachPairEndsAWay, EachPairIsJudged, EndsWith, Erases, GoesOn, HasPair, IsAmong, IsByItself, IsEarlier, IsFirstTo, IsJudged, IsJudgedOver, IsOver, IsSingle, Precedes, WaysAreThoseJudged}
use Rattle.cli_offers.proofs.Among.{among_cases, among_chosen, among_flat_map, among_if, among_left, among_range, among_right, from_chosen, from_flat_map, from_if, from_range, rising_append, rising_chosen, rising_flat_map, rising_if, rising_range, same_rising}
use Rattle.cli_offers.proofs.Chains.{ends_there, goes_further, over_keeps, way_by}
use Rattle.cli_offers.proofs.Judged.{first_there, longer_among, over_is_judged}
use Rattle.cli_offers.proofs.Orders.{OthersPrecede, precedes_once, rising_by, rising_over}

low_range : (count n : ℕ) → n < count → n < 0 + count
low_range count n low = omega (arith, low)

range_low : (count n : ℕ) → n < 0 + count → n < count
range_low count n low = omega (arith, low)

module _ (shown : Shown) where
  among_all : (n : ℕ) → n < length shown.plans → IsAmong n (all_of shown)
  among_all n low = among_range 0 (length shown.plans) n zero-le (low_range (length shown.plans) n low)

  from_all : (n : ℕ) → IsAmong n (all_of shown) → n < length shown.plans
  from_all n is = range_low (length shown.plans) n (from_range 0 (length shown.plans) n is).1

  abbrev singles : List Way
  singles = flat_map (alone_at shown) (all_of shown)

  abbrev longer : List Way
  longer = flat_map (over_at shown) (all_of shown)

  -- ---- those that are there

  single_among : (n : ℕ) → n < length shown.plans → is_alone shown n ≡ true → IsAmong (alone n) singles
  single_among n low is = among_flat_map (alone_at shown) n (alone n) (all_of shown) (among_all n low) (among_chosen (is_alone shown n) (alone n) is)

  from_singles : (way : Way) → IsAmong way singles → IsByItself shown way
  from_singles way is = next (from_flat_map (alone_at shown) way (all_of shown) is)
    where
      next : (n : ℕ) × IsAmong n (all_of shown) × IsAmong way (alone_at shown n) → IsByItself shown way
      next (n, among, at) = let chosen = from_chosen (is_alone shown n) (alone n) way at in subst (IsByItself shown) (sym chosen.1) (from_all n among, chosen.0, refl)

  over_among : (way : Way) → Erases shown way.first → IsAmong way (ways_over shown way.first) → IsAmong way longer
  over_among way erases is = among_flat_map (over_at shown) way.first way (all_of shown) (among_all way.first erases.0) (among_if (is_erased shown way.first) way (ways_over shown way.first) erases.1 is)

  at_over : (p : ℕ) (way : Way) → IsAmong p (all_of shown) → IsAmong way (over_at shown p) → Erases shown p × IsAmong way (ways_over shown p)
  at_over p way among at = let is = from_if (is_erased shown p) way (ways_over shown p) at in ((from_all p among, is.0), is.1)

  from_longer : (way : Way) → IsAmong way longer → IsJudgedOver shown way
  from_longer way is = next (from_flat_map (over_at shown) way (all_of shown) is)
    where
      next : (p : ℕ) × IsAmong p (all_of shown) × IsAmong way (over_at shown p) → IsJudgedOver shown way
      next (p, among, at) = let over = at_over p way among at in (over_is_judged shown p over.0 way over.1).1

  judged_among : (way : Way) → IsJudgedOver shown way → IsAmong way longer
  judged_among way (erases, others, s, some, first, over, same) = over_among way erases
      (subst (λ o. IsAmong (record { first = way.first; others = o; last = way.last }) (ways_over shown way.first)) (sym same) (longer_among shown way.first erases s way.last others first some over))

  from_ways : (way : Way) → IsAmong way (ways shown) → IsJudged shown way
  from_ways way is = ⊎_elim (λ single. inl (from_singles way single)) (λ more. inr (from_longer way more)) (among_cases way singles longer is)

  among_ways : (way : Way) → IsJudged shown way → IsAmong way (ways shown)
  among_ways way (inl (low, is, same)) = among_left way singles longer (subst (λ w. IsAmong w singles) (sym same) (single_among way.first low is))
  among_ways way (inr judged) = among_right way singles longer (judged_among way judged)

  -- ---- their order

  several : (way : Way) → IsJudgedOver shown way → ¬ IsSingle way
  several way (_, others, _, _, _, _, same) none = never others (ap length (sym same ∙ none))
    where
      never : (others : List ℕ) → length (others ++ way.last ∷ []) ≡ 0 → ⊥
      never others none = lost (length others) (sym (length-append others (way.last ∷ [])) ∙ none)
        where
          lost : (n : ℕ) → n + 1 ≡ 0 → ⊥
          lost n none = omega (arith, none)

  both_single : (v w : Way) → IsSingle v → IsSingle w → IsSingle v ↔ IsSingle w
  both_single v w single_v single_w = (λ _. single_w, λ _. single_v)

  none_single : (v w : Way) → ¬ IsSingle v → ¬ IsSingle w → IsSingle v ↔ IsSingle w
  none_single v w several_v several_w = (λ is. absurd (several_v is), λ is. absurd (several_w is))

  rising_singles : AreRising ComesBefore singles
  rising_singles = rising_flat_map (alone_at shown) (λ m n. m < n) ComesBefore (all_of shown) (rising_range 0 (length shown.plans))
      (λ n is. rising_chosen ComesBefore (is_alone shown n) (alone n))
      (λ m n v w is_m is_n less is_v is_w. across m n v w less (from_chosen (is_alone shown m) (alone m) v is_v).1 (from_chosen (is_alone shown n) (alone n) w is_w).1)
    where
      across : (m n : ℕ) (v w : Way) → m < n → v ≡ alone m → w ≡ alone n → ComesBefore v w
      across m n v w less v_is w_is = rw (v_is, w_is) (inr (both_single (alone m) (alone n) refl refl, inl less))

  rising_at : (p : ℕ) → IsAmong p (all_of shown) → AreRising ComesBefore (over_at shown p)
  rising_at p among = rising_by OthersPrecede ComesBefore (over_at shown p) by (rising_if OthersPrecede (is_erased shown p) (ways_over shown p) (rising_over shown p))
    where
      by : (v w : Way) → IsAmong v (over_at shown p) → IsAmong w (over_at shown p) → OthersPrecede v w → ComesBefore v w
      by v w is_v is_w before =
          let over_v = at_over p v among is_v in
          let over_w = at_over p w among is_w in
          let judged_v = over_is_judged shown p over_v.0 v over_v.1 in
          let judged_w = over_is_judged shown p over_w.0 w over_w.1 in
          inr (none_single v w (several v judged_v.1) (several w judged_w.1), inr (judged_v.0 ∙ sym judged_w.0, before))

  rising_longer : AreRising ComesBefore longer
  rising_longer = rising_flat_map (over_at shown) (λ m n. m < n) ComesBefore (all_of shown) (rising_range 0 (length shown.plans)) rising_at across
    where
      less_first : (p q m n : ℕ) → p < q → m ≡ p → n ≡ q → m < n
      less_first p q m n less m_is n_is = omega (arith, less, m_is, n_is)

      across : (p q : ℕ) (v w : Way) → IsAmong p (all_of shown) → IsAmong q (all_of shown) → p < q → IsAmong v (over_at shown p) → IsAmong w (over_at shown q) → ComesBefore v w
      across p q v w is_p is_q less is_v is_w =
          let over_v = at_over p v is_p is_v in
          let over_w = at_over q w is_q is_w in
          let judged_v = over_is_judged shown p over_v.0 v over_v.1 in
          let judged_w = over_is_judged shown q over_w.0 w over_w.1 in
          inr (none_single v w (several v judged_v.1) (several w judged_w.1), inl (less_first p q v.first w.first less judged_v.0 judged_w.0))

  rising_ways : AreRising ComesBefore (ways shown)
  rising_ways = rising_append ComesBefore singles longer rising_singles rising_longer
      (λ v w is_v is_w. inl (ap (λ (way : Way). way.others) (from_singles v is_v).2, several w (from_longer w is_w)))

-- ---- the laws

never : (m n : ℕ) → m < n → n < m → ⊥
never m n less more = omega (arith, less, more)

never_same : (m n : ℕ) → m < n → m ≡ n → ⊥
never_same m n less same = omega (arith, less, same)

earlier_once : (v w : Way) → IsEarlier v w → IsEarlier w v → ⊥
earlier_once v w less more = ⊎_elim
    (λ first. ⊎_elim (λ other. never v.first w.first first other) (λ (same, _). never_same v.first w.first first (sym same)) more)
    (λ (same, rest). ⊎_elim (λ other. never_same w.first v.first other (sym same)) (λ (_, other). precedes_once v.others w.others rest other) more) less

before_once : (v w : Way) → ComesBefore v w → ComesBefore w v → ⊥
before_once v w less more = ⊎_elim
    (λ (single_v, several_w). ⊎_elim (λ (single_w, _). several_w single_w) (λ (alike, _). several_w (alike.1 single_v)) more)
    (λ (alike, earlier). ⊎_elim (λ (single_w, several_v). several_v (alike.1 single_w)) (λ (_, other). earlier_once v w earlier other) more) less

pub are_those_judged : WaysAreThoseJudged
are_those_judged shown listed = (
  λ are. same_rising ComesBefore before_once listed (ways shown) are.1 (rising_ways shown) (λ way is. among_ways shown way ((are.0 way).0 is)) (λ way is. (are.0 way).1 (from_ways shown way is)),
  λ same. subst (AreThoseJudged shown) (sym same) (λ way. (from_ways shown way, among_ways shown way), rising_ways shown),
)

pub each_is_lawful : EachIsLawful
each_is_lawful shown way is = ⊎_elim (λ single. inl single) (λ more. inr (lawful more)) (from_ways shown way is)
  where
    lawful : IsJudgedOver shown way → Erases shown way.first × GoesOn shown way.first way.others way.last
    lawful (erases, others, s, _, first, over, same) = (erases, subst (λ o. GoesOn shown way.first o way.last) (sym same) (goes_further shown way.first s way.last others first.0 over))

pub each_begin_is_judged : EachBeginIsJudged
each_begin_is_judged shown n low is = among_ways shown (alone n) (inl (low, is, refl))

-- the nearest way to a screen, and one over it
ends_a_way : (shown : Shown) (p s n : ℕ) → Erases shown p → (nearest : List ℕ) × (nearest ≢ []) × IsFirstTo shown p nearest s → IsOver shown s n
    → (way : Way) × IsAmong way (ways shown) × (way.first ≡ p) × EndsWith (p ∷ way.others) s n
ends_a_way shown p s n erases (nearest, some, first) over =
    (with_screen (way_by shown p nearest s) n, among_ways shown (with_screen (way_by shown p nearest s) n) (inr (erases, nearest, s, some, first, over, refl)), refl, ends (ends_there shown p s nearest first.0))
  where
    ends : (front : List ℕ) × (p ∷ nearest ≡ front ++ s ∷ []) → EndsWith (p ∷ nearest ++ n ∷ []) s n
    ends (front, same) = (front, ap (λ l. l ++ n ∷ []) same ∙ append_assoc front (s ∷ []) (n ∷ []))

pub each_pair_ends_a_way : EachPairEndsAWay
each_pair_ends_a_way shown p s n others erases goes other over = ends_a_way shown p s n erases (first_there shown p erases s others goes some) over
  where
    some : others ≢ []
    some none = other (sym (subst (λ o. GoesOn shown p o s) none goes))

-- the n-th over the p-th itself: it is shown again
pair_at : (shown : Shown) (p n : ℕ) → Erases shown p → IsOver shown p n → (way : Way) × IsAmong way (ways shown) × (way.first ≡ p) × HasPair (p ∷ way.others) p n
pair_at shown p n erases (low, over) =
    (with_screen (way_by shown p (n ∷ []) n) n, among_ways shown (with_screen (way_by shown p (n ∷ []) n) n) (inr (erases, n ∷ [], n, some, (goes, least), (low, again), refl)), refl, ([], n ∷ [], refl))
  where
    keeps : is_erased shown n ≡ false
    keeps = over_keeps shown p n over

    again : is_over shown n n ≡ true
    again = ap (λ b. not b && ((n == n) || leads_on (slice_get shown.plans n) n)) keeps ∙ or_left (n == n) (leads_on (slice_get shown.plans n) n) (eq-eqb n n refl)

    goes : GoesOn shown p (n ∷ []) n
    goes = ((low, over), refl)

    some : n ∷ [] ≢ []
    some none = never_same 0 1 (omega arith) (sym (ap length none))

    least : (more : List ℕ) → GoesOn shown p more n → (n ∷ [] ≡ more) ⊎ Precedes (n ∷ []) more
    least [] same = absurd (true≢false (sym erases.1 ∙ ap (is_erased shown) same ∙ keeps))
    least (m ∷ []) (_, same) = inl (ap (λ q. q ∷ []) (sym same))
    least (m ∷ q ∷ more) goes_on = inr (inl (fewer (length more)))
      where
        fewer : (k : ℕ) → 1 < suc (suc k)
        fewer k = omega arith

pub each_pair_is_judged : EachPairIsJudged
each_pair_is_judged shown p s n [] erases same over =
    subst (λ q. (way : Way) × IsAmong way (ways shown) × (way.first ≡ p) × HasPair (p ∷ way.others) q n) same (pair_at shown p n erases (subst (λ q. IsOver shown q n) (sym same) over))
each_pair_is_judged shown p s n (q ∷ others) erases goes over = with_pair (ends_a_way shown p s n erases (first_there shown p erases s (q ∷ others) goes some) over)
  where
    some : q ∷ others ≢ []
    some none = lost (length others) (ap length none)
      where
        lost : (k : ℕ) → suc k ≡ 0 → ⊥
        lost k none = omega (arith, none)

    with_pair : (way : Way) × IsAmong way (ways shown) × (way.first ≡ p) × EndsWith (p ∷ way.others) s n → (way : Way) × IsAmong way (ways shown) × (way.first ≡ p) × HasPair (p ∷ way.others) s n
    with_pair (way, is, first, (front, same)) = (way, is, first, (front, [], same))
