-- The screens that are found are those to which a chain of keys leads.
use Rattle.std.proofs.Common.{◌≡◌, ◌∙◌, ℕ, suc, zero, ◌+◌, ◌<◌, ◌≤◌, ◌⊎◌, inl, inr, Bool, true, false, not, ◌&&◌, ◌||◌, eqb, nat_lt, List, [], ◌∷◌, ◌++◌, length, get_or, ⊎_elim, Option, Some, None, Ok, refl, sym, ap, subst, arith, true≢false, ltb-true, lt-ltb, eqb-true, eq-eqb, MatchOption, append-nil, append_assoc, length-append, ◌-◌}
use Rattle.std.specs.Prelude.{if◌then◌else◌, ◌==◌}
use Rattle.std.specs.List.{IsDistinct}
use Rattle.std.proofs.lemmas.Bool.{and_parts, or_cases, or_left, or_right, cases_lt, not-true, not-false, and_cases}
use Rattle.std.proofs.lemmas.List.Folds.{list_any-append}
use Rattle.std.proofs.lemmas.Map.Keys.{IsDistinct-push}
use Rattle.std.proofs.lemmas.Cmp.{nat_eq_equiv}
use Rattle.std.proofs.lemmas.List.{get_or_append_left}
use Rattle.std.proofs.lemmas.Option.{slice_get_past}
use Rattle.std.proofs.lemmas.Map.Steps.{length-le_from_distinct_below}
use Rattle.tn_dialogue.specs.declared.screen.Lead.{Lead}
use Rattle.tn_dialogue.specs.declared.screen.Next.{Next}
use Rattle.tn_dialogue.specs.declared.screen.Next.TheVariants.{Shows, Ends}
use Rattle.cli_applications.specs.declared.fault.ManifestFault.{ManifestFault}
use Rattle.cli_applications.specs.declared.fault.ManifestKey.TheVariants.{Name}
use Rattle.cli_applications.specs.declared.fault.Why.TheVariants.{NoWay}
use Rattle.cli_applications.specs.Fault.{at_key, in_screen}
use Rattle.cli_applications.specs.Manifest.{Declared, Planned, leads_to, shows}
use Rattle.cli_applications.specs.Chains.{leads_of, leads_in, LeadsBy, HasWay, AllHaveWays, IsFirstLost, has, with_one, with_next, with_leads, AreReached, IsRefusedBy}

-- ---- what is found holds more and more

has_more : (found : List ℕ) (n m : ℕ) → has found m ≡ true → has (found ++ n ∷ []) m ≡ true
has_more found n m is = list_any-append (λ q. m == q) found (n ∷ []) ∙ or_left (has found m) (has (n ∷ []) m) is

has_itself : (found : List ℕ) (n : ℕ) → has (found ++ n ∷ []) n ≡ true
has_itself found n = list_any-append (λ q. n == q) found (n ∷ []) ∙ or_right (has found n) (has (n ∷ []) n) (or_left (n == n) false (eq-eqb n n refl))

has_alone : (n m : ℕ) → has (n ∷ []) m ≡ true → n ≡ m
has_alone n m is = sym (eqb-true m n (left (m == n) is))
  where
    left : (b : Bool) → (b || false) ≡ true → b ≡ true
    left true is = refl
    left false is = is

has_cases : (found : List ℕ) (n m : ℕ) → has (found ++ n ∷ []) m ≡ true → (has found m ≡ true) ⊎ (n ≡ m)
has_cases found n m is = ⊎_elim (λ before. inl before) (λ same. inr (has_alone n m same)) (or_cases (has found m) (has (n ∷ []) m) (sym (list_any-append (λ q. m == q) found (n ∷ [])) ∙ is))

-- what one more screen may do: nothing, where it isn't below the count or is there; or it is added
by_one : (P : List ℕ → Type 0) (count : ℕ) (found : List ℕ) (n : ℕ) → P found → (n < count → has found n ≡ false → P (found ++ n ∷ [])) → P (with_one count found n)
by_one P count found n stays grows =
    elim (nat_lt n count && not (has found n)) as (λ b. (nat_lt n count && not (has found n)) ≡ b → P (if b then found ++ n ∷ [] else found)) [
      | true ↦ λ is. let parts = and_parts (nat_lt n count) (not (has found n)) is in grows (ltb-true n count parts.0) (not-true (has found n) parts.1)
      | false ↦ λ is. stays
    ] refl

by_next : (P : List ℕ → Type 0) (count : ℕ) (found : List ℕ) (next : Next) → P found → ((n : ℕ) → shows n next ≡ true → n < count → has found n ≡ false → P (found ++ n ∷ [])) → P (with_next count found next)
by_next P count found (Shows n) stays grows = by_one P count found n stays (grows n (eq-eqb n n refl))
by_next P count found Ends stays grows = stays

-- what one more screen keeps, to which one of the leads leads, all of them keep
by_leads : (P : List ℕ → Type 0) (count : ℕ) (found : List ℕ) (leads : List Lead) → P found
    → ((now : List ℕ) (n : ℕ) → leads_to leads n ≡ true → n < count → has now n ≡ false → P now → P (now ++ n ∷ [])) → P (with_leads count found leads)
by_leads P count found [] stays grows = stays
by_leads P count found (lead ∷ leads) stays grows =
    by_leads P count (with_next count found lead.next) leads
    (by_next P count found lead.next stays (λ n is low new. grows found n (or_left (shows n lead.next) (leads_to leads n) is) low new stays))
    (λ now n is low new there. grows now n (or_right (shows n lead.next) (leads_to leads n) is) low new there)

one_found : (count : ℕ) (found : List ℕ) (n : ℕ) → n < count → has (with_one count found n) n ≡ true
one_found count found n low =
    elim (nat_lt n count && not (has found n)) as (λ b. (nat_lt n count && not (has found n)) ≡ b → has (if b then found ++ n ∷ [] else found) n ≡ true) [
      | true ↦ λ is. has_itself found n
      | false ↦ λ is. ⊎_elim (λ high. absurd (true≢false (sym (lt-ltb n count low) ∙ high))) (λ there. not-false (has found n) there) (and_cases (nat_lt n count) (not (has found n)) is)
    ] refl

next_found : (count : ℕ) (found : List ℕ) (next : Next) (n : ℕ) → shows n next ≡ true → n < count → has (with_next count found next) n ≡ true
next_found count found (Shows m) n is low = subst (λ q. has (with_one count found q) n ≡ true) (sym (eqb-true m n is)) (one_found count found n low)
next_found count found Ends n is low = absurd (true≢false (sym is))

leads_found : (count : ℕ) (found : List ℕ) (leads : List Lead) (n : ℕ) → leads_to leads n ≡ true → n < count → has (with_leads count found leads) n ≡ true
leads_found count found [] n is low = absurd (true≢false (sym is))
leads_found count found (lead ∷ leads) n is low = ⊎_elim
    (λ here. by_leads (λ now. has now n ≡ true) count (with_next count found lead.next) leads (next_found count found lead.next n here low) (λ now m _ _ _ there. has_more now m n there))
    (λ later. leads_found count (with_next count found lead.next) leads n later low)
    (or_cases (shows n lead.next) (leads_to leads n) is)

-- ---- the way there

longer : (screens : List Planned) (p q n : ℕ) (way : List ℕ) → LeadsBy screens p way q → leads_to (leads_of screens q) n ≡ true → LeadsBy screens p (way ++ n ∷ []) n
longer screens p q n [] same is = (subst (λ r. leads_to (leads_of screens r) n ≡ true) (sym same) is, refl)
longer screens p q n (r ∷ way) (first, rest) is = (first, longer screens r q n way rest is)

one_longer : (screens : List Planned) (first q n : ℕ) → HasWay screens first q → leads_to (leads_of screens q) n ≡ true → HasWay screens first n
one_longer screens first q n (way, leads) is = (way ++ n ∷ [], longer screens first q n way leads is)

-- ---- the screens so far, of which the keys of the first were followed

pub record Finds (screens : List Planned) (first at : ℕ) (found : List ℕ) : Type 0 where
  ways : (n : ℕ) → has found n ≡ true → HasWay screens first n
  low : (n : ℕ) → has found n ≡ true → n < length screens
  apart : IsDistinct eqb found
  begun : first < length screens → has found first ≡ true
  done : (i n : ℕ) → i < at → n < length screens → leads_to (leads_of screens (get_or found i 0)) n ≡ true → has found n ≡ true
  within : at ≤ length found

few : (screens : List Planned) (first at : ℕ) (found : List ℕ) → Finds screens first at found → length found ≤ length screens
few screens first at found finds = length-le_from_distinct_below found (length screens) finds.apart finds.low

none_found : (n : ℕ) → has [] n ≡ true → ⊥
none_found n is = true≢false (sym is)

pub begins : (screens : List Planned) (first : ℕ) → Finds screens first 0 (with_one (length screens) [] first)
unfolding IsDistinct
begins screens first = record {
  ways = by_one (λ now. (n : ℕ) → has now n ≡ true → HasWay screens first n) (length screens) [] first (λ n is. absurd (none_found n is))
      (λ low new n is. ([], has_alone first n is));
  low = by_one (λ now. (n : ℕ) → has now n ≡ true → n < length screens) (length screens) [] first (λ n is. absurd (none_found n is))
      (λ low new n is. subst (λ m. m < length screens) (has_alone first n is) low);
  apart = by_one (IsDistinct eqb) (length screens) [] first tt (λ low new. IsDistinct-push nat_eq_equiv [] first tt refl);
  begun = one_found (length screens) [] first;
  done = λ i n before. absurd (none_below i before);
  within = omega arith;
}
  where
    none_below : (i : ℕ) → i < 0 → ⊥
    none_below i before = omega (arith, before)

-- ---- the keys of one more screen

has_at : (found : List ℕ) (i : ℕ) → i < length found → has found (get_or found i 0) ≡ true
has_at [] i low = absurd (not_below i low)
  where
    not_below : (i : ℕ) → i < 0 → ⊥
    not_below i low = omega (arith, low)
has_at (n ∷ found) zero low = or_left (n == n) (has found n) (eq-eqb n n refl)
has_at (n ∷ found) (suc i) low = or_right (get_or found i 0 == n) (has found (get_or found i 0)) (has_at found i (omega (arith, low)))

index_of : (found : List ℕ) (n : ℕ) → has found n ≡ true → (i : ℕ) × (i < length found) × (get_or found i 0 ≡ n)
index_of [] n is = absurd (none_found n is)
index_of (m ∷ found) n is = ⊎_elim (λ same. (0, omega arith, sym (eqb-true n m same))) (λ later. next (index_of found n later)) (or_cases (n == m) (has found n) is)
  where
    next : (i : ℕ) × (i < length found) × (get_or found i 0 ≡ n) → (i : ℕ) × (i < length (m ∷ found)) × (get_or (m ∷ found) i 0 ≡ n)
    next (i, low, at) = (suc i, omega (arith, low), at)

grown : (count : ℕ) (found : List ℕ) (leads : List Lead) → (more : List ℕ) × (with_leads count found leads ≡ found ++ more)
grown count found leads = by_leads (λ now. (more : List ℕ) × (now ≡ found ++ more)) count found leads ([], sym (append-nil found)) step
  where
    step : (now : List ℕ) (n : ℕ) → leads_to leads n ≡ true → n < count → has now n ≡ false → (more : List ℕ) × (now ≡ found ++ more) → (more : List ℕ) × (now ++ n ∷ [] ≡ found ++ more)
    step now n is low new (more, same) = (more ++ n ∷ [], ap (λ l. l ++ n ∷ []) same ∙ append_assoc found more (n ∷ []))

stays_at : (found more new : List ℕ) (i : ℕ) → new ≡ found ++ more → i < length found → get_or new i 0 ≡ get_or found i 0
stays_at found more new i same low = ap (λ l. get_or l i 0) same ∙ get_or_append_left found more 0 i low

followed : (screens : List Planned) (first at : ℕ) (found : List ℕ) → Finds screens first at found → at < length found
    → (i n : ℕ) → i < at + 1 → n < length screens
    → leads_to (leads_of screens (get_or (with_leads (length screens) found (leads_of screens (get_or found at 0))) i 0)) n ≡ true
    → has (with_leads (length screens) found (leads_of screens (get_or found at 0))) n ≡ true
followed screens first at found finds inside i n before low is =
    let leads : List Lead = leads_of screens (get_or found at 0) in
    let new : List ℕ = with_leads (length screens) found leads in
    let more = grown (length screens) found leads in
    let here : leads_to (leads_of screens (get_or found i 0)) n ≡ true =
    ap (λ p. leads_to (leads_of screens p) n) (sym (stays_at found more.0 new i more.1 (omega (arith, before, inside)))) ∙ is in
    ⊎_elim
    (λ earlier. by_leads (λ now. has now n ≡ true) (length screens) found leads (finds.done i n earlier low here) (λ now m _ _ _ there. has_more now m n there))
    (λ last. leads_found (length screens) found leads n (subst (λ j. leads_to (leads_of screens (get_or found j 0)) n ≡ true) (here_is i before last) here) low)
    (cases_lt i at)
  where
    here_is : (j : ℕ) → j < at + 1 → at ≤ j → j ≡ at
    here_is j below last = omega (arith, last, below)

pub follows : (screens : List Planned) (first at : ℕ) (found : List ℕ) → Finds screens first at found → at < length found
    → Finds screens first (at + 1) (with_leads (length screens) found (leads_of screens (get_or found at 0)))
follows screens first at found finds inside =
    let p : ℕ = get_or found at 0 in
    let leads : List Lead = leads_of screens p in
    record {
      ways = by_leads (λ now. (n : ℕ) → has now n ≡ true → HasWay screens first n) (length screens) found leads finds.ways
          (λ now n is low new there m found_now. ⊎_elim (there m) (λ same. subst (HasWay screens first) same (one_longer screens first p n (finds.ways p (has_at found at inside)) is)) (has_cases now n m found_now));
      low = by_leads (λ now. (n : ℕ) → has now n ≡ true → n < length screens) (length screens) found leads finds.low
          (λ now n is low new there m found_now. ⊎_elim (there m) (λ same. subst (λ q. q < length screens) same low) (has_cases now n m found_now));
      apart = by_leads (IsDistinct eqb) (length screens) found leads finds.apart (λ now n is low new there. IsDistinct-push nat_eq_equiv now n there new);
      begun = λ low. by_leads (λ now. has now first ≡ true) (length screens) found leads (finds.begun low) (λ now n _ _ _ there. has_more now n first there);
      done = followed screens first at found finds inside;
      within = as_long (grown (length screens) found leads);
    }
  where
    as_long : {new : List ℕ} → (more : List ℕ) × (new ≡ found ++ more) → at + 1 ≤ length new
    as_long (more, same) = rw (same, length-append found more) (omega (arith, inside))

pub smaller : (screens : List Planned) (first at : ℕ) (found : List ℕ) → Finds screens first at found → at < length found → length screens - (at + 1) < length screens - at
smaller screens first at found finds inside = omega (arith, inside, few screens first at found finds)

-- ---- all keys were followed

beyond : (screens : List Planned) (q n : ℕ) (way : List ℕ) → length screens ≤ q → n < length screens → LeadsBy screens q way n → ⊥
beyond screens q n [] high low same = lost q n high low same
  where
    lost : (q n : ℕ) → length screens ≤ q → n < length screens → q ≡ n → ⊥
    lost q n high low same = omega (arith, high, low, same)
beyond screens q n (r ∷ way) high low (is, rest) = true≢false (sym is ∙ ap (λ screen. leads_to (leads_in screen) r) (slice_get_past screens q high))

closed : (screens : List Planned) (first at : ℕ) (found : List ℕ) → Finds screens first at found → length found ≤ at
    → (p n : ℕ) (way : List ℕ) → has found p ≡ true → n < length screens → LeadsBy screens p way n → has found n ≡ true
closed screens first at found finds all p n [] is low same = subst (λ q. has found q ≡ true) same is
closed screens first at found finds all p n (q ∷ way) is low (leads, rest) = ⊎_elim
    (λ low_q. closed screens first at found finds all q n way (next (index_of found p is) low_q) low rest)
    (λ high. absurd (beyond screens q n way high low rest))
    (cases_lt q (length screens))
  where
    next : (i : ℕ) × (i < length found) × (get_or found i 0 ≡ p) → q < length screens → has found q ≡ true
    next (i, inside, at_i) low_q = finds.done i q (omega (arith, inside, all)) low_q (subst (λ r. leads_to (leads_of screens r) q ≡ true) (sym at_i) leads)

pub ends : (screens : List Planned) (first at : ℕ) (found : List ℕ) → Finds screens first at found → length found ≤ at → AreReached screens first found
ends screens first at found finds all n low = (finds.ways n, there)
  where
    there : HasWay screens first n → has found n ≡ true
    there (way, leads) = ⊎_elim
        (λ low_first. closed screens first at found finds all first n way (finds.begun low_first) low leads)
        (λ high. absurd (beyond screens first n way high low leads))
        (cases_lt first (length screens))

-- ---- the first that isn't found

pub judged : (screens : List Planned) (first : ℕ) (found : List ℕ) (lost : Option ℕ) → AreReached screens first found
    → MatchOption lost ((n : ℕ) → n < length screens → has found n ≡ true) (λ n. (n < length screens) × (has found n ≡ false) × ((m : ℕ) → m < n → has found m ≡ true))
    → MatchOption lost (AllHaveWays screens first) (λ n. IsFirstLost screens first n)
judged screens first found None reached all = λ n low. (reached n low).0 (all n low)
judged screens first found (Some n) reached (low, none, before) =
    (low, (λ way. true≢false (sym ((reached n low).1 way) ∙ none)), (λ m earlier. (reached m (omega (arith, earlier, low))).0 (before m earlier)))

-- ---- what a manifest is taken or refused for

pub refused : (said : Declared) (lost : Option ℕ) (n : ℕ) (fault : ManifestFault) → MatchOption lost (AllHaveWays said.screens said.first) (λ m. IsFirstLost said.screens said.first m)
    → lost ≡ Some n → fault ≡ in_screen n (at_key Name NoWay) → IsRefusedBy fault (Ok said)
refused said lost n fault judged is same = (n, subst (λ o. MatchOption o (AllHaveWays said.screens said.first) (λ m. IsFirstLost said.screens said.first m)) is judged, same)

pub taken : (said : Declared) (lost : Option ℕ) → MatchOption lost (AllHaveWays said.screens said.first) (λ m. IsFirstLost said.screens said.first m) → lost ≡ None → AllHaveWays said.screens said.first
taken said lost judged is = subst (λ o. MatchOption o (AllHaveWays said.screens said.first) (λ m. IsFirstLost said.screens said.first m)) is judged

-- the manifest is the one whose screens were lent
pub moved : (inside said : Declared) (screens : List Planned) (lost : Option ℕ) → inside ≡ said → screens ≡ inside.screens
    → MatchOption lost (AllHaveWays screens inside.first) (λ m. IsFirstLost screens inside.first m) → MatchOption lost (AllHaveWays said.screens said.first) (λ m. IsFirstLost said.screens said.first m)
moved inside said screens lost same lent judged =
    subst (λ m. MatchOption lost (AllHaveWays m.screens m.first) (λ n. IsFirstLost m.screens m.first n)) same
    (subst (λ l. MatchOption lost (AllHaveWays l inside.first) (λ n. IsFirstLost l inside.first n)) lent judged)
