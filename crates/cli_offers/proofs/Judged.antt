-- The ways that are listed are those that are judged.
use Rattle.std.proofs.Common.{◌≡◌, ◌≢◌, ◌∙◌, ℕ, ◌<◌, ◌≤◌, ◌⊎◌, inl, inr, ⊎_elim, true, false, List, [], ◌∷◌, length, sym, ap, ap₂, subst, refl, arith}
use Rattle.std.proofs.lemmas.Bool.{cases_lt}
use Rattle.cli_offers.specs.Ways.{Shown, Way, fresh, is_erased, is_over, ways_on, ways_over, ways_up_to, with_screen}
use Rattle.cli_offers.specs.Judged.{Erases, GoesOn, IsAmong, IsFirstTo, IsJudgedOver, IsOver, Precedes}
use Rattle.cli_offers.proofs.Among.{among_flat_map, from_flat_map}
use Rattle.cli_offers.proofs.Chains.{GoesBy, among_up_to, end_keeps, from_up_to, goes_away, goes_within, way_by}
use Rattle.cli_offers.proofs.Firsts.{first_to, fresh_least, from_fresh, from_on, on_among}
use Rattle.cli_offers.proofs.Orders.{OthersPrecede, precedes_once, rising_up_to}

same_way : (way : Way) (p s : ℕ) (others : List ℕ) → way.first ≡ p → way.others ≡ others → way.last ≡ s → way ≡ record { first = p; others = others; last = s }
same_way way p s others first rest last = ap (λ n. record { first = n; others = way.others; last = way.last }) first ∙ ap₂ (λ o n. record { first = p; others = o; last = n }) rest last

keeps_at : (shown : Shown) (p s : ℕ) (others : List ℕ) → GoesOn shown p others s → others ≢ [] → is_erased shown s ≡ false
keeps_at shown p s [] goes some = absurd (some refl)
keeps_at shown p s (q ∷ others) goes some = end_keeps shown p s q others goes

-- ---- the first ways to screens

module _ (shown : Shown) (p : ℕ) (erases : Erases shown p) where
  abbrev firsts : List Way
  firsts = fresh [] (ways_up_to shown p (length shown.plans))

  record IsFirst (way : Way) : Type 0 where
    pub begins : way.first ≡ p
    pub some : way.others ≢ []
    pub first : IsFirstTo shown p way.others way.last

  first_is : (way : Way) → IsAmong way firsts → IsFirst way
  first_is way is = let by = from_up_to shown p (length shown.plans) way (from_fresh [] (ways_up_to shown p (length shown.plans)) way is) in
      record { begins = by.3.begins; some = some by; first = (by.3.goes, least by) }
    where
      some : (long : ℕ) × (0 < long) × (long ≤ length shown.plans) × GoesBy shown p long way → way.others ≢ []
      some (long, more, _, by) none = never long more (sym by.long ∙ ap length none)
        where
          never : (long : ℕ) → 0 < long → long ≡ 0 → ⊥
          never long more none = omega (arith, more, none)

      compare : (more : List ℕ) → (way ≡ way_by shown p more way.last) ⊎ OthersPrecede way (way_by shown p more way.last) → (way.others ≡ more) ⊎ Precedes way.others more
      compare more (inl same) = inl (ap (λ (w : Way). w.others) same)
      compare more (inr before) = inr before

      fewer : (long count more : ℕ) → long ≤ count → count < more → long < more
      fewer long count more few many = omega (arith, few, many)

      least : (long : ℕ) × (0 < long) × (long ≤ length shown.plans) × GoesBy shown p long way → (more : List ℕ) → GoesOn shown p more way.last → (way.others ≡ more) ⊎ Precedes way.others more
      least (long, pos, few, by) more goes = ⊎_elim
          (λ many. inr (inl (subst (λ n. n < length more) (sym by.long) (fewer long (length shown.plans) (length more) few many))))
          (λ few_more. compare more (fresh_least OthersPrecede [] (ways_up_to shown p (length shown.plans)) way (way_by shown p more way.last) (rising_up_to shown p (length shown.plans)) is
          (among_up_to shown p way.last (length shown.plans) more goes (goes_away shown p way.last more erases goes (keeps_at shown p way.last way.others by.goes (some (long, pos, few, by)))) few_more) refl))
          (cases_lt (length shown.plans) (length more))

  -- it is the first to where it leads
  first_among : (s : ℕ) (others : List ℕ) → IsFirstTo shown p others s → others ≢ [] → IsAmong (way_by shown p others s) firsts
  first_among s others first some = found (first_to (ways_up_to shown p (length shown.plans)) (way_by shown p others s) (among_up_to shown p s (length shown.plans) others first.0 some (few (goes_within shown p s others erases.0 first.0))))
    where
      few : (fewer : List ℕ) × GoesOn shown p fewer s × (length fewer < length shown.plans) → length others ≤ length shown.plans
      few (fewer, goes, short) = ⊎_elim (λ same. as_few (length others) (length fewer) (length shown.plans) (ap length same) short)
          (⊎_elim (λ less. less_few (length others) (length fewer) (length shown.plans) less short) (λ (same, _). as_few (length others) (length fewer) (length shown.plans) same short)) (first.1 fewer goes)
        where
          as_few : (a b count : ℕ) → a ≡ b → b < count → a ≤ count
          as_few a b count same short = omega (arith, same, short)

          less_few : (a b count : ℕ) → a < b → b < count → a ≤ count
          less_few a b count less short = omega (arith, less, short)

      same_others : (one : Way) → IsFirstTo shown p one.others s → one.others ≡ others
      same_others one one_first = ⊎_elim (λ same. same)
          (λ before. ⊎_elim (λ same. sym same) (λ after. absurd (precedes_once one.others others before after)) (first.1 one.others one_first.0))
          (one_first.1 others first.0)

      found : (one : Way) × IsAmong one firsts × (one.last ≡ s) → IsAmong (way_by shown p others s) firsts
      found (one, is, last) = let one_is = first_is one is in
          subst (λ w. IsAmong w firsts) (same_way one p s others one_is.begins (same_others one (subst (λ n. IsFirstTo shown p one.others n) last one_is.first)) last) is

  -- ---- one screen more

  longer_is_judged : (before : Way) (n : ℕ) → IsFirst before → IsOver shown before.last n → IsJudgedOver shown (with_screen before n)
  longer_is_judged before n is over = (subst (Erases shown) (sym is.begins) erases, before.others, before.last, is.some, subst (λ q. IsFirstTo shown q before.others before.last) (sym is.begins) is.first, over, refl)

  pub over_is_judged : (way : Way) → IsAmong way (ways_over shown p) → (way.first ≡ p) × IsJudgedOver shown way
  over_is_judged way among = from (from_flat_map (ways_on shown) way firsts among)
    where
      on : (before : Way) → IsFirst before → (n : ℕ) × (n < length shown.plans) × (is_over shown before.last n ≡ true) × (way ≡ with_screen before n) → (way.first ≡ p) × IsJudgedOver shown way
      on before is (n, low, over, same) = subst (λ (w : Way). (w.first ≡ p) × IsJudgedOver shown w) (sym same) (is.begins, longer_is_judged before n is (low, over))

      from : (before : Way) × IsAmong before firsts × IsAmong way (ways_on shown before) → (way.first ≡ p) × IsJudgedOver shown way
      from (before, is, is_on) = on before (first_is before is) (from_on shown before way is_on)

  pub longer_among : (s n : ℕ) (others : List ℕ) → IsFirstTo shown p others s → others ≢ [] → IsOver shown s n → IsAmong (with_screen (way_by shown p others s) n) (ways_over shown p)
  longer_among s n others first some over =
      among_flat_map (ways_on shown) (way_by shown p others s) (with_screen (way_by shown p others s) n) firsts (first_among s others first some) (on_among shown (way_by shown p others s) n over.0 over.1)

  -- wherever screens lead, some way is the first
  pub first_there : (s : ℕ) (others : List ℕ) → GoesOn shown p others s → others ≢ [] → (nearest : List ℕ) × (nearest ≢ []) × IsFirstTo shown p nearest s
  first_there s others goes some = from (goes_within shown p s others erases.0 goes)
    where
      named : (one : Way) × IsAmong one firsts × (one.last ≡ s) → (nearest : List ℕ) × (nearest ≢ []) × IsFirstTo shown p nearest s
      named (one, is, last) = let one_is = first_is one is in (one.others, one_is.some, subst (λ n. IsFirstTo shown p one.others n) last one_is.first)

      from : (fewer : List ℕ) × GoesOn shown p fewer s × (length fewer < length shown.plans) → (nearest : List ℕ) × (nearest ≢ []) × IsFirstTo shown p nearest s
      from (fewer, leads, short) = named (first_to (ways_up_to shown p (length shown.plans)) (way_by shown p fewer s)
          (among_up_to shown p s (length shown.plans) fewer leads (goes_away shown p s fewer erases leads (keeps_at shown p s others goes some)) (less (length fewer) (length shown.plans) short)))
        where
          less : (a b : ℕ) → a < b → a ≤ b
          less a b short = omega (arith, short)
