-- Ways with more and more screens, of which those that come first to their last screen go on.
use Rattle.std.proofs.Common.{◌≡◌, ◌∙◌, ℕ, zero, suc, ◌+◌, List, [], ◌∷◌, ◌++◌, length, sym, ap, ap₂, subst, subst₂, arith, append-nil, append_assoc, true≢false, map-id}
use Rattle.std.specs.List.{flat_map, range_with_len}
use Rattle.std.proofs.lemmas.List.{map-append}
use Rattle.std.proofs.lemmas.List.FromFn.{map-range_with_len_more}
use Rattle.std.proofs.lemmas.Grind.{flat_map-append}
use Rattle.cli_offers.specs.Ways.{Shown, Way, all_on, alone, ends_of, fresh, ways_of, ways_on, ways_up_to}
use Rattle.cli_offers.proofs.Firsts.{Covers, all_new, fresh_append, next_covers, same_again}

range_more : (count : ℕ) → range_with_len 1 (suc count) ≡ range_with_len 1 count ++ suc count ∷ []
range_more count = ap (range_with_len 1) (one_more count) ∙ sym (map-id (range_with_len 1 (count + 1))) ∙ map-range_with_len_more (λ (k : ℕ). k) 1 count (suc count) (omega arith) ∙ ap (λ l. l ++ suc count ∷ []) (map-id (range_with_len 1 count))
  where
    one_more : (count : ℕ) → suc count ≡ count + 1
    one_more count = omega arith

module _ (shown : Shown) (p : ℕ) where
  pub up_to_next : (count : ℕ) → ways_up_to shown p (suc count) ≡ ways_up_to shown p count ++ ways_of shown p (suc count)
  up_to_next count = ap (flat_map (ways_of shown p)) (range_more count) ∙ flat_map-append (ways_of shown p) (range_with_len 1 count) (suc count ∷ []) ∙ ap (λ l. ways_up_to shown p count ++ l) (append-nil (ways_of shown p (suc count)))

  -- the screens to which ways come with so many screens after the first, or fewer
  abbrev pub known_at : ℕ → List ℕ
  known_at count = ends_of (fresh [] (ways_up_to shown p count))

  -- the ways with one screen more that come to another
  abbrev pub found_at : ℕ → List Way
  found_at count = fresh (known_at count) (ways_of shown p (suc count))

  firsts_next : (count : ℕ) → fresh [] (ways_up_to shown p (suc count)) ≡ fresh [] (ways_up_to shown p count) ++ found_at count
  firsts_next count = ap (fresh []) (up_to_next count) ∙ fresh_append [] (ways_up_to shown p count) (ways_of shown p (suc count))

  pub known_next : (count : ℕ) → known_at (suc count) ≡ known_at count ++ ends_of (found_at count)
  known_next count = ap ends_of (firsts_next count) ∙ map-append (λ (way : Way). way.last) (fresh [] (ways_up_to shown p count)) (found_at count)

  pub listed_next : (count : ℕ) → all_on shown (fresh [] (ways_up_to shown p (suc count))) ≡ all_on shown (fresh [] (ways_up_to shown p count)) ++ all_on shown (found_at count)
  listed_next count = ap (all_on shown) (firsts_next count) ∙ flat_map-append (ways_on shown) (fresh [] (ways_up_to shown p count)) (found_at count)

  covers_at : (count : ℕ) → Covers shown (known_at count) (known_at (suc count))
  covers_at zero = λ e n is low over. absurd (true≢false (sym is))
  covers_at (suc count) =
      subst₂ (Covers shown) (sym (known_next count)) (sym (known_next (suc count))) (next_covers shown (known_at count) (known_at (suc count)) (ways_of shown p (suc count)) (covers_at count))

  pub found_next : (count : ℕ) → fresh (known_at (suc count)) (all_on shown (found_at count)) ≡ found_at (suc count)
  found_next count = same_again shown (known_at count) (known_at (suc count)) (ways_of shown p (suc count)) (covers_at count)

  pub found_first : found_at 0 ≡ ways_on shown (alone p)
  found_first = ap (fresh []) (append-nil (ways_on shown (alone p))) ∙ all_new shown (alone p) 0 (length shown.plans) [] (λ n is. absurd (true≢false (sym is)))

  -- the ways with one screen more were added
  pub record OneMore (round : ℕ) (before next : List Way) (known : List ℕ) (found : List Way) : Type 0 where
    pub ways_are : next ≡ before ++ all_on shown (fresh [] (ways_up_to shown p round))
    pub known_are : known ≡ known_at (suc round)
    pub found_are : found ≡ found_at round

  pub begun : (before : List Way) (known : List ℕ) (found : List Way) → found ≡ ways_on shown (alone p) → known ≡ ends_of found → OneMore 0 before before known found
  begun before known found found_is known_is = record {
    ways_are = sym (append-nil before);
    known_are = known_is ∙ ap ends_of (found_is ∙ sym found_first) ∙ sym (known_next 0);
    found_are = found_is ∙ sym found_first;
  }

  pub one_round : (round : ℕ) (before now next : List Way) (known newly : List ℕ) (found longer next_found : List Way) → OneMore round before now known found
      → longer ≡ all_on shown found → next_found ≡ fresh known longer → newly ≡ known ++ ends_of (fresh known longer) → next ≡ now ++ longer → OneMore (round + 1) before next newly next_found
  one_round round before now next known newly found longer next_found so_far longer_is next_found_is newly_is next_is =
      subst (λ n. OneMore n before next newly next_found) (one_more round) (record {
        ways_are = next_is ∙ ap₂ (λ l m. l ++ m) so_far.ways_are (longer_is ∙ ap (all_on shown) so_far.found_are)
            ∙ append_assoc before (all_on shown (fresh [] (ways_up_to shown p round))) (all_on shown (found_at round)) ∙ ap (λ l. before ++ l) (sym (listed_next round));
        known_are = newly_is ∙ ap₂ (λ k f. k ++ ends_of f) so_far.known_are fresh_is ∙ sym (known_next (suc round));
        found_are = next_found_is ∙ fresh_is;
      })
    where
      one_more : (n : ℕ) → suc n ≡ n + 1
      one_more n = omega arith

      fresh_is : fresh known longer ≡ found_at (suc round)
      fresh_is = ap₂ fresh so_far.known_are (longer_is ∙ ap (all_on shown) so_far.found_are) ∙ found_next round
