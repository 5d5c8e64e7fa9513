-- Of a list of ways those that come first to their last screen.
use Rattle.std.proofs.Common.{◌≡◌, ◌∙◌, ℕ, ◌+◌, ◌<◌, ◌⊎◌, inl, inr, ⊎_elim, Bool, true, false, List, [], ◌∷◌, ◌++◌, length, sym, ap, refl, subst, append_assoc, zero-le, arith, lt_irrefl, zero, suc, true≢false, eq-eqb, eqb-true}
use Rattle.std.specs.Prelude.{if◌then◌else◌, ◌==◌}
use Rattle.std.specs.List.{flat_map, range_with_len}
use Rattle.std.proofs.lemmas.Bool.{or_cases, or_left, or_right}
use Rattle.std.proofs.lemmas.List.{append-nil}
use Rattle.std.proofs.lemmas.List.Folds.{list_any-append}
use Rattle.cli_offers.specs.Ways.{Shown, Way, all_of, all_on, ends_of, fresh, is_known, is_over, on_at, ways_on, with_screen}
use Rattle.cli_offers.specs.Judged.{AreRising, IsAmong}
use Rattle.cli_offers.proofs.Among.{among_chosen, among_flat_map, among_range, from_chosen, from_flat_map, from_range}

-- ---- what is known

pub known_cases : (known more : List ℕ) (n : ℕ) → is_known (known ++ more) n ≡ true → (is_known known n ≡ true) ⊎ (is_known more n ≡ true)
known_cases known more n is = or_cases (is_known known n) (is_known more n) (sym (list_any-append (λ m. n == m) known more) ∙ is)

pub known_before : (known more : List ℕ) (n : ℕ) → is_known known n ≡ true → is_known (known ++ more) n ≡ true
known_before known more n is = list_any-append (λ m. n == m) known more ∙ or_left (is_known known n) (is_known more n) is

pub known_after : (known more : List ℕ) (n : ℕ) → is_known more n ≡ true → is_known (known ++ more) n ≡ true
known_after known more n is = list_any-append (λ m. n == m) known more ∙ or_right (is_known known n) (is_known more n) is

known_here : (known : List ℕ) (n : ℕ) → is_known (n ∷ known) n ≡ true
known_here known n = or_left (n == n) (is_known known n) (eq-eqb n n refl)

known_alone : (m n : ℕ) → is_known (m ∷ []) n ≡ true → n ≡ m
known_alone m n is = ⊎_elim (λ same. eqb-true n m same) (λ none. absurd (true≢false (sym none))) (or_cases (n == m) false is)

not_both : (b : Bool) → b ≡ true → b ≡ false → ⊥
not_both b is isnt = true≢false (sym is ∙ isnt)

pub known_end : (way : Way) (ways : List Way) → IsAmong way ways → is_known (ends_of ways) way.last ≡ true
known_end way [] is = absurd is
known_end way (first ∷ ways) (inl same) = subst (λ (w : Way). is_known (ends_of (first ∷ ways)) w.last ≡ true) (sym same) (known_here (ends_of ways) first.last)
known_end way (first ∷ ways) (inr later) = or_right (way.last == first.last) (is_known (ends_of ways) way.last) (known_end way ways later)

pub end_of_known : (ways : List Way) (n : ℕ) → is_known (ends_of ways) n ≡ true → (way : Way) × IsAmong way ways × (way.last ≡ n)
end_of_known [] n is = absurd (true≢false (sym is))
end_of_known (first ∷ ways) n is = ⊎_elim (λ same. (first, inl refl, sym (eqb-true n first.last same))) (λ later. next (end_of_known ways n later)) (or_cases (n == first.last) (is_known (ends_of ways) n) is)
  where
    next : (way : Way) × IsAmong way ways × (way.last ≡ n) → (way : Way) × IsAmong way (first ∷ ways) × (way.last ≡ n)
    next (way, is, same) = (way, inr is, same)

-- ---- what comes first

by_fresh : (P : List Way → Type 0) (known : List ℕ) (way : Way) (ways : List Way) → (is_known known way.last ≡ true → P (fresh known ways))
    → (is_known known way.last ≡ false → P (way ∷ fresh (known ++ way.last ∷ []) ways)) → P (fresh known (way ∷ ways))
by_fresh P known way ways old new =
    elim (is_known known way.last) as (λ b. is_known known way.last ≡ b → P (if b then fresh known ways else way ∷ fresh (known ++ way.last ∷ []) ways)) [
      | true ↦ old
      | false ↦ new
    ] refl

pub fresh_append : (known : List ℕ) (xs ys : List Way) → fresh known (xs ++ ys) ≡ fresh known xs ++ fresh (known ++ ends_of (fresh known xs)) ys
fresh_append known [] ys = ap (λ k. fresh k ys) (sym (append-nil known))
fresh_append known (x ∷ xs) ys =
    elim (is_known known x.last) as (λ b.
    (if b then fresh known (xs ++ ys) else x ∷ fresh (known ++ x.last ∷ []) (xs ++ ys))
    ≡ (if b then fresh known xs else x ∷ fresh (known ++ x.last ∷ []) xs)
    ++ fresh (known ++ ends_of (if b then fresh known xs else x ∷ fresh (known ++ x.last ∷ []) xs)) ys) [
      | true ↦ fresh_append known xs ys
      | false ↦ ap (λ l. x ∷ l) (fresh_append (known ++ x.last ∷ []) xs ys
          ∙ ap (λ k. fresh (known ++ x.last ∷ []) xs ++ fresh k ys) (append_assoc known (x.last ∷ []) (ends_of (fresh (known ++ x.last ∷ []) xs))))
    ]

pub none_fresh : (known : List ℕ) (ways : List Way) → ((way : Way) → IsAmong way ways → is_known known way.last ≡ true) → fresh known ways ≡ []
none_fresh known [] all = refl
none_fresh known (way ∷ ways) all =
    by_fresh (λ l. l ≡ []) known way ways (λ old. none_fresh known ways (λ other is. all other (inr is))) (λ new. absurd (not_both (is_known known way.last) (all way (inl refl)) new))

pub from_fresh : (known : List ℕ) (ways : List Way) (way : Way) → IsAmong way (fresh known ways) → IsAmong way ways
from_fresh known [] way is = absurd is
from_fresh known (first ∷ ways) way is =
    by_fresh (λ l. IsAmong way l → IsAmong way (first ∷ ways)) known first ways (λ old there. inr (from_fresh known ways way there))
    (λ new. ⊎_elim (λ same. inl same) (λ later. inr (from_fresh (known ++ first.last ∷ []) ways way later))) is

-- what comes first wasn't known
pub was_new : (known : List ℕ) (ways : List Way) (way : Way) → IsAmong way (fresh known ways) → is_known known way.last ≡ true → ⊥
was_new known [] way is = absurd is
was_new known (first ∷ ways) way is =
    by_fresh (λ l. IsAmong way l → is_known known way.last ≡ true → ⊥) known first ways (λ old there. was_new known ways way there)
    (λ new. ⊎_elim
    (λ same there. not_both (is_known known way.last) there (ap (λ (w : Way). is_known known w.last) same ∙ new))
    (λ later there. was_new (known ++ first.last ∷ []) ways way later (known_before known (first.last ∷ []) way.last there))) is

-- from then on each is known
pub then_known : (known : List ℕ) (ways : List Way) (way : Way) → IsAmong way ways → is_known (known ++ ends_of (fresh known ways)) way.last ≡ true
then_known known [] way is = absurd is
then_known known (first ∷ ways) way is =
    by_fresh (λ l. is_known (known ++ ends_of l) way.last ≡ true) known first ways
    (λ old. ⊎_elim
    (λ same. known_before known (ends_of (fresh known ways)) way.last (ap (λ (w : Way). is_known known w.last) same ∙ old))
    (λ later. then_known known ways way later) is)
    (λ new. subst (λ k. is_known k way.last ≡ true) (append_assoc known (first.last ∷ []) (ends_of (fresh (known ++ first.last ∷ []) ways)))
    (⊎_elim
    (λ same. known_before (known ++ first.last ∷ []) (ends_of (fresh (known ++ first.last ∷ []) ways)) way.last (at_end same))
    (λ later. then_known (known ++ first.last ∷ []) ways way later) is))
  where
    at_end : way ≡ first → is_known (known ++ first.last ∷ []) way.last ≡ true
    at_end same = subst (λ (w : Way). is_known (known ++ first.last ∷ []) w.last ≡ true) (sym same) (known_after known (first.last ∷ []) first.last (known_here [] first.last))

-- to wherever one of the ways comes, one comes first
pub first_to : (ways : List Way) (way : Way) → IsAmong way ways → (one : Way) × IsAmong one (fresh [] ways) × (one.last ≡ way.last)
first_to ways way is = end_of_known (fresh [] ways) way.last (then_known [] ways way is)

module _ (Before : Way → Way → Type 0) where
  pub rising_fresh : (known : List ℕ) (ways : List Way) → AreRising Before ways → AreRising Before (fresh known ways)
  rising_fresh known [] rising = tt
  rising_fresh known (way ∷ ways) (first, rest) =
      by_fresh (AreRising Before) known way ways (λ old. rising_fresh known ways rest)
      (λ new. (λ other is. first other (from_fresh (known ++ way.last ∷ []) ways other is), rising_fresh (known ++ way.last ∷ []) ways rest))

  -- it comes before whatever else comes to the same screen
  pub fresh_least : (known : List ℕ) (ways : List Way) (one other : Way) → AreRising Before ways → IsAmong one (fresh known ways) → IsAmong other ways → other.last ≡ one.last
      → (one ≡ other) ⊎ Before one other
  fresh_least known [] one other rising is there same = absurd is
  fresh_least known (way ∷ ways) one other (first, rest) is there same =
      by_fresh (λ l. IsAmong one l → (one ≡ other) ⊎ Before one other) known way ways
      (λ old is. ⊎_elim
      (λ here. absurd (was_new known ways one is (ap (is_known known) (sym same ∙ ap (λ (w : Way). w.last) here) ∙ old)))
      (λ later. fresh_least known ways one other rest is later same) there)
      (λ new. ⊎_elim
      (λ at. ⊎_elim (λ here. inl (at ∙ sym here)) (λ later. inr (subst (λ w. Before w other) (sym at) (first other later))) there)
      (λ is. ⊎_elim
      (λ here. absurd (was_new (known ++ way.last ∷ []) ways one is (subst (λ n. is_known (known ++ way.last ∷ []) n ≡ true) (sym (ap (λ (w : Way). w.last) here) ∙ same) (known_after known (way.last ∷ []) way.last (known_here [] way.last)))))
      (λ later. fresh_least (known ++ way.last ∷ []) ways one other rest is later same) there)) is

-- ---- one screen more

module _ (shown : Shown) where
  pub on_among : (way : Way) (n : ℕ) → n < length shown.plans → is_over shown way.last n ≡ true → IsAmong (with_screen way n) (ways_on shown way)
  on_among way n low over = among_flat_map (on_at shown way) n (with_screen way n) (all_of shown) (among_range 0 (length shown.plans) n zero-le (low_range (length shown.plans) low)) (among_chosen (is_over shown way.last n) (with_screen way n) over)
    where
      low_range : (count : ℕ) → n < count → n < 0 + count
      low_range count low = omega (arith, low)

  pub from_on : (way longer : Way) → IsAmong longer (ways_on shown way) → (n : ℕ) × (n < length shown.plans) × (is_over shown way.last n ≡ true) × (longer ≡ with_screen way n)
  from_on way longer is = next (from_flat_map (on_at shown way) longer (all_of shown) is)
    where
      next : (n : ℕ) × IsAmong n (all_of shown) × IsAmong longer (on_at shown way n) → (n : ℕ) × (n < length shown.plans) × (is_over shown way.last n ≡ true) × (longer ≡ with_screen way n)
      next (n, among, at) = let chosen = from_chosen (is_over shown way.last n) (with_screen way n) longer at in (n, low (length shown.plans) n (from_range 0 (length shown.plans) n among).1, chosen.0, chosen.1)
        where
          low : (count n : ℕ) → n < 0 + count → n < count
          low count n below = omega (arith, below)

  -- whatever comes over a known screen is known by then
  abbrev pub Covers : List ℕ → List ℕ → Type 0
  Covers known newly = (e n : ℕ) → is_known known e ≡ true → n < length shown.plans → is_over shown e n ≡ true → is_known newly n ≡ true

  newly_covers : (known newly : List ℕ) (way : Way) → Covers known newly → Covers (known ++ way.last ∷ []) (newly ++ ends_of (fresh newly (ways_on shown way)))
  newly_covers known newly way covers e n is low over = ⊎_elim
      (λ before. known_before newly (ends_of (fresh newly (ways_on shown way))) n (covers e n before low over))
      (λ last. then_known newly (ways_on shown way) (with_screen way n) (on_among way n low (subst (λ s. is_over shown s n ≡ true) (known_alone way.last e last) over)))
      (known_cases known (way.last ∷ []) e is)

  none_on : (known newly : List ℕ) (way : Way) (ways : List Way) → Covers known newly → is_known known way.last ≡ true → fresh newly (ways_on shown way ++ all_on shown ways) ≡ fresh newly (all_on shown ways)
  none_on known newly way ways covers old =
      fresh_append newly (ways_on shown way) (all_on shown ways)
      ∙ ap (λ l. l ++ fresh (newly ++ ends_of l) (all_on shown ways)) (none_fresh newly (ways_on shown way) (λ longer is. is_there longer (from_on way longer is)))
      ∙ ap (λ k. fresh k (all_on shown ways)) (append-nil newly)
    where
      is_there : (longer : Way) → (n : ℕ) × (n < length shown.plans) × (is_over shown way.last n ≡ true) × (longer ≡ with_screen way n) → is_known newly longer.last ≡ true
      is_there longer (n, low, over, same) = subst (λ (w : Way). is_known newly w.last ≡ true) (sym same) (covers way.last n old low over)

  -- What comes first over all the ways comes first over those that come first to their last screen.
  pub same_again : (known newly : List ℕ) (ways : List Way) → Covers known newly → fresh newly (all_on shown (fresh known ways)) ≡ fresh newly (all_on shown ways)
  same_again known newly [] covers = refl
  same_again known newly (way ∷ ways) covers =
      by_fresh (λ l. fresh newly (all_on shown l) ≡ fresh newly (all_on shown (way ∷ ways))) known way ways
      (λ old. same_again known newly ways covers ∙ sym (none_on known newly way ways covers old))
      (λ new. fresh_append newly (ways_on shown way) (all_on shown (fresh (known ++ way.last ∷ []) ways))
      ∙ ap (λ l. fresh newly (ways_on shown way) ++ l) (same_again (known ++ way.last ∷ []) (newly ++ ends_of (fresh newly (ways_on shown way))) ways (newly_covers known newly way covers))
      ∙ sym (fresh_append newly (ways_on shown way) (all_on shown ways)))

  pub next_covers : (known newly : List ℕ) (ways : List Way) → Covers known newly → Covers (known ++ ends_of (fresh known ways)) (newly ++ ends_of (fresh newly (all_on shown ways)))
  next_covers known newly ways covers e n is low over = ⊎_elim
      (λ before. known_before newly (ends_of (fresh newly (all_on shown ways))) n (covers e n before low over))
      (λ last. from_last (end_of_known (fresh known ways) e last))
      (known_cases known (ends_of (fresh known ways)) e is)
    where
      from_last : (way : Way) × IsAmong way (fresh known ways) × (way.last ≡ e) → is_known (newly ++ ends_of (fresh newly (all_on shown ways))) n ≡ true
      from_last (way, is_way, same) = then_known newly (all_on shown ways) (with_screen way n)
          (among_flat_map (ways_on shown) way (with_screen way n) ways (from_fresh known ways way is_way) (on_among way n low (subst (λ s. is_over shown s n ≡ true) (sym same) over)))

  -- ways of one screen more of one way come to different screens
  pub all_new : (way : Way) (low count : ℕ) (known : List ℕ) → ((n : ℕ) → is_known known n ≡ true → n < low)
      → fresh known (flat_map (on_at shown way) (range_with_len low count)) ≡ flat_map (on_at shown way) (range_with_len low count)
  all_new way low zero known below = refl
  all_new way low (suc count) known below =
      elim (is_over shown way.last low) as (λ b.
      fresh known ((if b then with_screen way low ∷ [] else []) ++ flat_map (on_at shown way) (range_with_len (low + 1) count))
      ≡ (if b then with_screen way low ∷ [] else []) ++ flat_map (on_at shown way) (range_with_len (low + 1) count)) [
        | true ↦ by_fresh (λ l. l ≡ with_screen way low ∷ flat_map (on_at shown way) (range_with_len (low + 1) count)) known (with_screen way low) (flat_map (on_at shown way) (range_with_len (low + 1) count))
            (λ old. absurd (lt_irrefl low (below low old)))
            (λ new. ap (λ l. with_screen way low ∷ l) (all_new way (low + 1) count (known ++ low ∷ []) (λ n is. ⊎_elim (λ before. later n (below n before)) (λ at. here n (known_alone low n at)) (known_cases known (low ∷ []) n is))))
        | false ↦ all_new way (low + 1) count known (λ n is. later n (below n is))
      ]
    where
      later : (n : ℕ) → n < low → n < low + 1
      later n less = omega (arith, less)

      here : (n : ℕ) → n ≡ low → n < low + 1
      here n same = omega (arith, same)
