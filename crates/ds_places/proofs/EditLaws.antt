-- What is held once an entry is stored or some are cut out.
use Rattle.std.proofs.Common.{◌≡◌, ◌≢◌, ℕ, suc, ◌+◌, ◌-◌, ◌<◌, ◌≤◌, ◌&&◌, Bool, true, false, cond, eqb, ltb, leb, Result, List, [], ◌∷◌, ◌++◌, length, get_or, set, take, drop, Option, Some, None, Ok, Err, unwrap_or, refl, sym, ◌∙◌, ap, subst, arith, inl, inr}
use Rattle.std.specs.List.{insert, copy_within}
use Rattle.std.proofs.lemmas.Bool.{cond-true, cond-false, cases_lt, cases_eq, eq-eqb, ne_eqb, lt-ltb, le-ltb, le-leb, lt-leb}
use Rattle.std.proofs.lemmas.List.{get_or_default, set_split, take-append-drop, take_rest, length-append}
use Rattle.std.proofs.lemmas.List.Edits.{take-paste}
use Rattle.std.proofs.Math.Seq.{drop-cons}
use Rattle.std.proofs.Math.ListN.{length-drop}
use Rattle.ds_places.specs.Places.{at_place, RisesFrom, IsRising, IsWithin}
use Rattle.ds_places.specs.Nearest.{IsSlot}
use Rattle.ds_places.proofs.ListLaws.{rises_weaken, rises_beyond, rises_join, few, either, at_append, at_filter, below, beyond, take_kept, drop_kept}
use Rattle.ds_places.proofs.SearchLaws.{Parts, held_here, held_none}

module _ {T : Type 0} (place : T → ℕ) where
  take_below : (xs : List T) (q i : ℕ) → Parts place xs q i → take i xs ≡ below place q xs
  take_below xs q i parts =
      take_kept (λ x. ltb (place x) q) xs i (λ k d before lt. lt-ltb _ _ (parts.0 k d (omega arith) before)) (λ k d from lt. le-ltb _ _ (parts.1 k d from lt))

  drop_beyond : (xs : List T) (q i : ℕ) → Parts place xs q i → drop i xs ≡ beyond place q xs
  drop_beyond xs q i parts =
      drop_kept (λ x. leb q (place x)) xs i (λ k d before lt. lt-leb _ _ (parts.0 k d (omega arith) before)) (λ k d from lt. le-leb _ _ (parts.1 k d from lt))

  at_take : (xs : List T) (q i r : ℕ) → Parts place xs q i → at_place place (take i xs) r ≡ cond (ltb r q) (at_place place xs r) None
  at_take xs q i r parts = ap (λ l. at_place place l r) (take_below xs q i parts) ∙ at_filter place (λ p. ltb p q) xs r

  at_drop : (xs : List T) (q i r : ℕ) → Parts place xs q i → at_place place (drop i xs) r ≡ cond (leb q r) (at_place place xs r) None
  at_drop xs q i r parts = ap (λ l. at_place place l r) (drop_beyond xs q i parts) ∙ at_filter place (leb q) xs r

  rises_drop : (xs : List T) (q i : ℕ) → IsRising place xs → Parts place xs q i → RisesFrom place q (drop i xs)
  rises_drop xs q i rising parts = subst (RisesFrom place q) (sym (drop_beyond xs q i parts)) (rises_beyond place 0 q xs rising)

  rises_both : (xs ys : List T) (q i : ℕ) → IsRising place xs → Parts place xs q i → RisesFrom place q ys → IsRising place (take i xs ++ ys)
  rises_both xs ys q i rising parts after =
      subst (λ l. IsRising place (l ++ ys)) (sym (take_below xs q i parts)) (rises_join place 0 q xs ys rising (omega arith) after)

  either_none : (o : Option T) → either place o None ≡ o
  unfolding either
  either_none (Some x) = refl
  either_none None = refl

  none_either : (o : Option T) → either place None o ≡ o
  unfolding either
  none_either o = refl

  -- ---- what a search told of a lent list
  pub slot_as : (xs lent : List T) (q : ℕ) (x : T) (told is : Result ℕ ℕ) → lent ≡ xs → q ≡ place x → told ≡ is → IsSlot place lent q told → IsSlot place xs (place x) is
  slot_as xs lent q x told is same at so slot =
      subst (IsSlot place xs (place x)) so (subst (λ p. IsSlot place xs p told) at (subst (λ l. IsSlot place l q told) same slot))

  pub parts_as : (xs lent : List T) (q i : ℕ) → lent ≡ xs → Parts place lent q i → Parts place xs q i
  parts_as xs lent q i same parts = subst (λ l. Parts place l q i) same parts

  -- ---- an entry in its place, before a rest that holds all others that stood from there on
  stored_at : (xs zs : List T) (i : ℕ) (x : T) → Parts place xs (place x) i → ((r : ℕ) → place x ≢ r → at_place place zs r ≡ at_place place (drop i xs) r)
      → (r : ℕ) → at_place place (take i xs ++ x ∷ zs) r ≡ cond (eqb (place x) r) (Some x) (at_place place xs r)
  stored_at xs zs i x parts rest r =
      let q : ℕ = place x in
      let first = at_take xs q i r parts in
      let joined = at_append place (take i xs) (x ∷ zs) r in
      elim (cases_eq q r) [
        | inl same ↦
            joined ∙ ap (λ o. either place o (at_place place (x ∷ zs) r)) (first ∙ cond-false (ltb r q) _ _ (le-ltb _ _ (omega (arith, same))))
            ∙ none_either (at_place place (x ∷ zs) r) ∙ cond-true (eqb q r) _ _ (eq-eqb _ _ same) ∙ sym (cond-true (eqb q r) _ _ (eq-eqb _ _ same))
        | inr apart ↦
            let second : at_place place (x ∷ zs) r ≡ cond (leb q r) (at_place place xs r) None =
            cond-false (eqb q r) _ _ (ne_eqb _ _ apart) ∙ rest r apart ∙ at_drop xs q i r parts in
            joined ∙ ap (λ o. either place o (at_place place (x ∷ zs) r)) first ∙ ap (either place (cond (ltb r q) (at_place place xs r) None)) second
            ∙ (elim (cases_lt r q) [
              | inl less ↦
                  ap (λ o. either place o (cond (leb q r) (at_place place xs r) None)) (cond-true (ltb r q) _ _ (lt-ltb _ _ less))
                  ∙ ap (either place (at_place place xs r)) (cond-false (leb q r) _ _ (lt-leb _ _ less)) ∙ either_none (at_place place xs r)
              | inr more ↦
                  ap (λ o. either place o (cond (leb q r) (at_place place xs r) None)) (cond-false (ltb r q) _ _ (le-ltb _ _ more))
                  ∙ none_either _ ∙ cond-true (leb q r) _ _ (le-leb _ _ more)
            ])
            ∙ sym (cond-false (eqb q r) _ _ (ne_eqb _ _ apart))
      ]

  rises_next : (low : ℕ) (ys : List T) → RisesFrom place low ys → ((d : T) → 0 < length ys → place (get_or ys 0 d) ≢ low) → RisesFrom place (low + 1) ys
  rises_next low [] h apart = tt
  rises_next low (y ∷ ys) h apart = (let other : place y ≢ low = apart y (omega arith) in omega (arith, h.0, other), h.1)

  pub inserted_at : (xs now : List T) (i : ℕ) (x : T) → Parts place xs (place x) i → now ≡ insert xs i x
      → (r : ℕ) → at_place place now r ≡ cond (eqb (place x) r) (Some x) (at_place place xs r)
  inserted_at xs now i x parts is r = ap (λ l. at_place place l r) is ∙ stored_at xs (drop i xs) i x parts (λ q apart. refl) r

  pub inserted_rises : (xs now : List T) (i : ℕ) (x : T) → IsRising place xs → Parts place xs (place x) i → now ≡ insert xs i x
      → ((d : T) → i < length xs → place (get_or xs i d) ≢ place x) → IsRising place now
  inserted_rises xs now i x rising parts is apart =
      subst (IsRising place) (sym is)
      (rises_both xs (x ∷ drop i xs) (place x) i rising parts
      (omega arith, rises_next (place x) (drop i xs) (rises_drop xs (place x) i rising parts) (head_apart xs i x apart)))
    where
      head_apart : (xs : List T) (i : ℕ) (x : T) → ((d : T) → i < length xs → place (get_or xs i d) ≢ place x) → (d : T) → 0 < length (drop i xs) → place (get_or (drop i xs) 0 d) ≢ place x
      head_apart xs i x apart d some same =
          let lt : i < length xs = omega (arith, length-drop i xs) in
          apart d lt (sym (ap (λ l. place (get_or l 0 d)) (drop-cons xs i d lt)) ∙ same)

  -- ---- an entry that is added where none stands
  pub kept_at : (xs : List T) (i : ℕ) (x : T) → IsRising place xs → IsSlot place xs (place x) (Ok i)
      → (r : ℕ) → at_place place xs r ≡ cond (eqb (place x) r) (Some (unwrap_or (at_place place xs r) x)) (at_place place xs r)
  kept_at xs i x rising slot r =
      elim (cases_eq (place x) r) [
        | inl same ↦
            let y : T = get_or xs i x in
            let held : Some y ≡ at_place place xs r = held_here place xs (place x) i y rising slot (get_or_default xs i x y slot.1) ∙ ap (at_place place xs) same in
            sym held ∙ ap (λ o. Some (unwrap_or o x)) held ∙ sym (cond-true (eqb (place x) r) _ _ (eq-eqb _ _ same))
        | inr apart ↦ sym (cond-false (eqb (place x) r) _ _ (ne_eqb _ _ apart))
      ]

  pub added_at : (xs ys : List T) (i : ℕ) (x : T) → IsRising place xs → IsSlot place xs (place x) (Err i)
      → ((r : ℕ) → at_place place ys r ≡ cond (eqb (place x) r) (Some x) (at_place place xs r))
      → (r : ℕ) → at_place place ys r ≡ cond (eqb (place x) r) (Some (unwrap_or (at_place place xs r) x)) (at_place place xs r)
  added_at xs ys i x rising slot is r =
      elim (cases_eq (place x) r) [
        | inl same ↦
            let none : None ≡ at_place place xs r = held_none place xs (place x) i rising slot ∙ ap (at_place place xs) same in
            is r ∙ cond-true (eqb (place x) r) _ _ (eq-eqb _ _ same) ∙ ap (λ o. Some (unwrap_or o x)) none
            ∙ sym (cond-true (eqb (place x) r) _ _ (eq-eqb _ _ same))
        | inr apart ↦ is r ∙ cond-false (eqb (place x) r) _ _ (ne_eqb _ _ apart) ∙ sym (cond-false (eqb (place x) r) _ _ (ne_eqb _ _ apart))
      ]

  pub replaced_at : (xs now : List T) (i : ℕ) (x d : T) → IsRising place xs → Parts place xs (place x) i → i < length xs → place (get_or xs i d) ≡ place x → now ≡ set xs i x
      → (r : ℕ) → at_place place now r ≡ cond (eqb (place x) r) (Some x) (at_place place xs r)
  replaced_at xs now i x d rising parts lt there is r =
      ap (λ l. at_place place l r) (is ∙ set_split xs i x lt)
      ∙ stored_at xs (drop (suc i) xs) i x parts
      (λ q apart. sym (ap (λ l. at_place place l q) (drop-cons xs i d lt) ∙ cond-false (eqb (place (get_or xs i d)) q) _ _ (ne_eqb _ _ (λ same. apart (sym there ∙ same))))) r

  pub replaced_rises : (xs now : List T) (i : ℕ) (x d : T) → IsRising place xs → Parts place xs (place x) i → i < length xs → place (get_or xs i d) ≡ place x → now ≡ set xs i x
      → IsRising place now
  replaced_rises xs now i x d rising parts lt there is =
      let rest : RisesFrom place (place x) (get_or xs i d ∷ drop (suc i) xs) = subst (RisesFrom place (place x)) (drop-cons xs i d lt) (rises_drop xs (place x) i rising parts) in
      let after : RisesFrom place (place x + 1) (drop (suc i) xs) = subst (λ p. RisesFrom place (p + 1) (drop (suc i) xs)) there rest.1 in
      subst (IsRising place) (sym (is ∙ set_split xs i x lt)) (rises_both xs (x ∷ drop (suc i) xs) (place x) i rising parts (omega arith, after))

  -- room for one more, where nothing is held at a place that may be
  pub has_room : (xs : List T) (n i : ℕ) (x : T) → IsRising place xs → IsWithin place n xs → Parts place xs (place x) i → place x < n
      → ((d : T) → i < length xs → place (get_or xs i d) ≢ place x) → length xs + 1 ≤ n
  has_room xs n i x rising within parts lt apart =
      let now : List T = insert xs i x in
      let held : IsWithin place n now = λ q far.
      inserted_at xs now i x parts refl q ∙ cond-false (eqb (place x) q) _ _ (ne_eqb _ _ (λ same. omega (arith, same))) ∙ within q far in
      let all : length now ≤ n - 0 = few place 0 n now (inserted_rises xs now i x rising parts refl apart) held in
      omega (arith, all, more xs i x)
    where
      more : (xs : List T) (i : ℕ) (x : T) → length xs + 1 ≤ length (insert xs i x)
      more xs i x = let a = ap length (take-append-drop i xs) in simp length-append (omega (arith, simp length-append at a))

  -- ---- a cut
  cut_both : (xs : List T) (from to i j : ℕ) → from ≤ to → Parts place xs from i → Parts place xs to j
      → (r : ℕ) → at_place place (take i xs ++ drop j xs) r ≡ cond (leb from r && ltb r to) None (at_place place xs r)
  cut_both xs from to i j order low high r =
      let joined = at_append place (take i xs) (drop j xs) r in
      let first = at_take xs from i r low in
      let second = at_drop xs to j r high in
      let A : Option T = at_place place xs r in
      joined ∙ ap (λ o. either place o (at_place place (drop j xs) r)) first ∙ ap (either place (cond (ltb r from) A None)) second
      ∙ (elim (cases_lt r from) [
        | inl less ↦
            ap (λ t. either place (cond t A None) (cond (leb to r) A None)) (lt-ltb _ _ less) ∙ ap (λ t. either place A (cond t A None)) (lt-leb to r (omega arith))
            ∙ either_none A ∙ sym (ap (λ t. cond (t && ltb r to) None A) (lt-leb _ _ less))
        | inr from_here ↦
            ap (λ t. either place (cond t A None) (cond (leb to r) A None)) (le-ltb _ _ from_here) ∙ none_either _
            ∙ (elim (cases_lt r to) [
              | inl inside ↦ ap (λ t. cond t A None) (lt-leb _ _ inside) ∙ sym (ap (λ t. cond (t && ltb r to) None A) (le-leb _ _ from_here) ∙ ap (λ t. cond t None A) (lt-ltb _ _ inside))
              | inr past ↦ ap (λ t. cond t A None) (le-leb _ _ past) ∙ sym (ap (λ t. cond (t && ltb r to) None A) (le-leb _ _ from_here) ∙ ap (λ t. cond t None A) (le-ltb _ _ past))
            ])
      ])

  rises_cut : (xs : List T) (from to i j : ℕ) → from ≤ to → IsRising place xs → Parts place xs from i → Parts place xs to j → IsRising place (take i xs ++ drop j xs)
  rises_cut xs from to i j order rising low high =
      rises_both xs (drop j xs) from i rising low (rises_weaken place from to (drop j xs) order (rises_drop xs to j rising high))

  -- a greater place parts the list no earlier
  pub parts_order : (xs : List T) (from to i j : ℕ) → from ≤ to → Parts place xs from i → Parts place xs to j → i ≤ length xs → i ≤ j
  parts_order [] from to i j order low high within = omega arith
  parts_order (x ∷ xs) from to i j order low high within =
      elim (cases_lt j i) [
        | inl less ↦
            let a : place (get_or (x ∷ xs) j x) < from = low.0 j x (omega arith) less in
            let b : to ≤ place (get_or (x ∷ xs) j x) = high.1 j x (omega arith) (omega arith) in
            omega (arith, a, b)
        | inr le ↦ le
      ]

  moved : (xs now : List T) (i j : ℕ) → i ≤ j → j ≤ length xs → now ≡ take (length xs - (j - i)) (copy_within xs j (length xs) i) → now ≡ take i xs ++ drop j xs
  moved xs now i j le within is =
      let left : length xs - (j - i) ≡ i + (length xs - j) = omega arith in
      is ∙ ap (λ n. take n (copy_within xs j (length xs) i)) left
      ∙ take-paste xs i (drop j xs) (length xs - j) (omega arith) (omega (arith, length-drop j xs))
      ∙ ap (λ l. take i xs ++ l) (take_rest xs j)

  pub cut_at : (xs now : List T) (from to i j : ℕ) → from ≤ to → Parts place xs from i → Parts place xs to j → i ≤ j → j ≤ length xs
      → now ≡ take (length xs - (j - i)) (copy_within xs j (length xs) i)
      → (r : ℕ) → at_place place now r ≡ cond (leb from r && ltb r to) None (at_place place xs r)
  cut_at xs now from to i j order low high le within is r =
      ap (λ l. at_place place l r) (moved xs now i j le within is) ∙ cut_both xs from to i j order low high r

  pub cut_rises : (xs now : List T) (from to i j : ℕ) → from ≤ to → IsRising place xs → Parts place xs from i → Parts place xs to j → i ≤ j → j ≤ length xs
      → now ≡ take (length xs - (j - i)) (copy_within xs j (length xs) i) → IsRising place now
  cut_rises xs now from to i j order rising low high le within is =
      subst (IsRising place) (sym (moved xs now i j le within is)) (rises_cut xs from to i j order rising low high)

  -- nothing to cut
  pub uncut_at : (xs : List T) (from to i j : ℕ) → from ≤ to → Parts place xs from i → Parts place xs to j → i ≡ j
      → (r : ℕ) → at_place place xs r ≡ cond (leb from r && ltb r to) None (at_place place xs r)
  uncut_at xs from to i j order low high same r =
      ap (λ l. at_place place l r) (sym (take-append-drop i xs) ∙ ap (λ k. take i xs ++ drop k xs) same) ∙ cut_both xs from to i j order low high r

  -- ---- nothing past the end
  pub stored_within : (xs now : List T) (n : ℕ) (x : T) → place x < n → IsWithin place n xs
      → ((r : ℕ) → at_place place now r ≡ cond (eqb (place x) r) (Some x) (at_place place xs r)) → IsWithin place n now
  stored_within xs now n x lt within stored q far = stored q ∙ cond-false (eqb (place x) q) _ _ (ne_eqb _ _ (λ same. omega (arith, same))) ∙ within q far

  pub cut_within : (xs now : List T) (n : ℕ) (gone : ℕ → Bool) → IsWithin place n xs
      → ((r : ℕ) → at_place place now r ≡ cond (gone r) None (at_place place xs r)) → IsWithin place n now
  cut_within xs now n gone within cut q far = cut q ∙ ap (cond (gone q) None) (within q far) ∙ both (gone q)
    where
      both : (t : Bool) → cond {A = Option T} t None None ≡ None
      both true = refl
      both false = refl
