-- What is held at a place is held in the block of the place.
use Rattle.std.proofs.Common.{◌≡◌, ◌≢◌, ℕ, zero, suc, ◌+◌, ◌-◌, ◌*◌, ◌/◌, ◌<◌, ◌≤◌, Bool, true, false, cond, eqb, ltb, leb, ◌&&◌, List, [], ◌∷◌, ◌++◌, length, get_or, map, drop, length-append, Option, Some, None, refl, sym, ◌∙◌, ap, subst, arith, inl, inr}
use Rattle.std.proofs.lemmas.Bool.{cond-true, cond-false, cases_lt, cases_eq, eq-eqb, eqb-true, ne_eqb, lt-ltb, le-ltb, le-leb, lt-leb}
use Rattle.ds_places.specs.Places.{at_place, RisesFrom, IsRising, IsWithin}
use Rattle.ds_places.specs.Nearest.{IsLastBelow, IsFirstFrom}
use Rattle.ds_places.specs.Pages.{entries_in, list_at, listed_if, itself, IsBlock}
use Rattle.std.specs.Prelude.{slice_get}
use Rattle.std.proofs.lemmas.List.{get_or_default, map-append}
use Rattle.std.proofs.lemmas.Option.{slice_get-get_or}
use Rattle.std.proofs.Math.Seq.{drop-cons}
use Rattle.ds_places.proofs.BlockLaws.{unlisted, listed_some, listed_inside, listed_alike, bound, bound_next, quiet, Walked, walk_end}
use Rattle.ds_places.proofs.SearchLaws.{Parts, last_found}
use Rattle.ds_places.proofs.ListLaws.{rises_weaken, few, either, at_append, at_held, at_none, rises_order}

-- ---- lists in the order of places
module _ {T : Type 0} (place : T → ℕ) where
  pub first_held : (x : T) (xs : List T) → at_place place (x ∷ xs) (place x) ≡ Some x
  first_held x xs = cond-true (eqb (place x) (place x)) _ _ (eq-eqb _ _ refl)

  pub at_low : (low : ℕ) (xs : List T) (q : ℕ) → RisesFrom place low xs → q < low → at_place place xs q ≡ None
  at_low low [] q h lt = refl
  at_low low (x ∷ xs) q h lt =
      cond-false (eqb (place x) q) _ _ (ne_eqb (place x) q (λ same. omega (arith, h.0, same))) ∙ at_low (place x + 1) xs q h.1 (omega (arith, h.0))

  -- nothing below the least is held
  pub rises_lift : (low : ℕ) (xs : List T) → IsRising place xs → ((q : ℕ) → q < low → at_place place xs q ≡ None) → RisesFrom place low xs
  rises_lift low [] h none = tt
  rises_lift low (x ∷ xs) h none = (
    elim (cases_lt (place x) low) [
      | inl less ↦ let e : Some x ≡ None = sym (first_held x xs) ∙ none (place x) less in absurd cc
      | inr le ↦ le
    ],
    h.1,
  )

  pub rises_append : (low mid : ℕ) (xs ys : List T) → RisesFrom place low xs → IsWithin place mid xs → low ≤ mid → RisesFrom place mid ys → RisesFrom place low (xs ++ ys)
  rises_append low mid [] ys h within le after = rises_weaken place low mid ys le after
  rises_append low mid (x ∷ xs) ys h within le after =
      let below : place x < mid = elim (cases_lt (place x) mid) [
        | inl less ↦ less
        | inr far ↦ let e : Some x ≡ None = sym (first_held x xs) ∙ within (place x) far in absurd cc
      ] in
      let rest : IsWithin place mid xs = λ q far. sym (cond-false (eqb (place x) q) _ _ (ne_eqb (place x) q (λ same. omega (arith, same, below)))) ∙ within q far in
      (h.0, rises_append (place x + 1) mid xs ys h.1 rest (omega arith) after)

  -- one more than there are, where a place holds none
  pub few_but : (low n p : ℕ) (xs : List T) → RisesFrom place low xs → IsWithin place n xs → low ≤ p → p < n → at_place place xs p ≡ None → length xs + 1 ≤ n - low
  few_but low n p [] h within from below none = omega arith
  few_but low n p (x ∷ xs) h within from below none =
      let rest : IsWithin place n xs = λ q far. elim (cases_eq (place x) q) [
        | inl same ↦ let e : Some x ≡ None = sym (cond-true (eqb (place x) q) _ _ (eq-eqb _ _ same)) ∙ within q far in absurd cc
        | inr apart ↦ sym (cond-false (eqb (place x) q) _ _ (ne_eqb _ _ apart)) ∙ within q far
      ] in
      elim (cases_eq (place x) p) [
        | inl same ↦ let e : Some x ≡ None = sym (cond-true (eqb (place x) p) _ _ (eq-eqb _ _ same)) ∙ none in absurd cc
        | inr apart ↦ elim (cases_lt (place x) p) [
          | inl less ↦
              let others : at_place place xs p ≡ None = sym (cond-false (eqb (place x) p) _ _ (ne_eqb _ _ apart)) ∙ none in
              let more : length xs + 1 ≤ n - (place x + 1) = few_but (place x + 1) n p xs h.1 rest (omega arith) below others in
              omega (arith, more, h.0)
          | inr beyond ↦
              let all : length xs ≤ n - (place x + 1) = few place (place x + 1) n xs h.1 rest in
              let there : place x < n = elim (cases_lt (place x) n) [
                | inl less ↦ less
                | inr far ↦ let e : Some x ≡ None = sym (first_held x xs) ∙ within (place x) far in absurd cc
              ] in
              omega (arith, all, there, beyond, apart)
        ]
      ]

  -- nothing is held anywhere
  pub empty_of : (xs : List T) → ((q : ℕ) → at_place place xs q ≡ None) → xs ≡ []
  empty_of [] none = refl
  empty_of (x ∷ xs) none = let e : Some x ≡ None = sym (first_held x xs) ∙ none (place x) in absurd cc

  either_none : (o : Option T) → either place o None ≡ o
  unfolding either
  either_none (Some x) = refl
  either_none None = refl

  none_either : (o : Option T) → either place None o ≡ o
  unfolding either
  none_either o = refl

  -- ---- all blocks
  rest_of : (base : ℕ) (xs : List T) (lists : List (List T)) → ((k : ℕ) → IsBlock place (base + k) (list_at (xs ∷ lists) k)) → (k : ℕ) → IsBlock place (base + 1 + k) (list_at lists k)
  rest_of base xs lists each k = let same : base + suc k ≡ base + 1 + k = omega arith in subst (λ j. IsBlock place j (list_at lists k)) same (each (suc k))

  first_of_all : (base : ℕ) (xs : List T) (lists : List (List T)) → ((k : ℕ) → IsBlock place (base + k) (list_at (xs ∷ lists) k)) → IsBlock place base xs
  first_of_all base xs lists each = let same : base + zero ≡ base = omega arith in subst (λ j. IsBlock place j xs) same (each zero)

  none_below : (base : ℕ) (lists : List (List T)) (q : ℕ) → ((k : ℕ) → IsBlock place (base + k) (list_at lists k)) → q / 512 < base → at_place place (entries_in lists) q ≡ None
  none_below base [] q each lt = refl
  none_below base (xs ∷ lists) q each lt =
      at_append place xs (entries_in lists) q ∙ ap (λ o. either place o (at_place place (entries_in lists) q)) ((first_of_all base xs lists each).inside q (λ same. omega (arith, same, lt)))
      ∙ none_either _ ∙ none_below (base + 1) lists q (rest_of base xs lists each) (omega (arith, lt))

  at_some : (base : ℕ) (lists : List (List T)) (q k : ℕ) → ((k : ℕ) → IsBlock place (base + k) (list_at lists k)) → q / 512 ≡ base + k
      → at_place place (entries_in lists) q ≡ at_place place (list_at lists k) q
  at_some base [] q k each is = refl
  at_some base (xs ∷ lists) q zero each is =
      at_append place xs (entries_in lists) q
      ∙ ap (either place (at_place place xs q)) (none_below (base + 1) lists q (rest_of base xs lists each) (omega (arith, is)))
      ∙ either_none _
  at_some base (xs ∷ lists) q (suc k) each is =
      at_append place xs (entries_in lists) q ∙ ap (λ o. either place o (at_place place (entries_in lists) q)) ((first_of_all base xs lists each).inside q (λ same. omega (arith, same, is)))
      ∙ none_either _ ∙ at_some (base + 1) lists q k (rest_of base xs lists each) (omega (arith, is))

  -- what is held at a place is held in its block
  pub at_flat : (lists : List (List T)) → ((k : ℕ) → IsBlock place k (list_at lists k)) → (q : ℕ) → at_place place (entries_in lists) q ≡ at_place place (list_at lists (q / 512)) q
  at_flat lists each q = at_some 0 lists q (q / 512) (λ k. let same : k ≡ 0 + k = omega arith in subst (λ j. IsBlock place j (list_at lists k)) same (each k)) (omega arith)

  -- ---- one block
  pub block_rises : (k : ℕ) (xs : List T) → IsBlock place k xs → RisesFrom place (512 * k) xs
  block_rises k xs own = rises_lift (512 * k) xs own.rising (λ q lt. own.inside q (λ same. omega (arith, same, lt)))

  pub block_within : (k : ℕ) (xs : List T) → IsBlock place k xs → IsWithin place (512 * k + 512) xs
  block_within k xs own q far = own.inside q (λ same. omega (arith, same, far))

  pub block_few : (k : ℕ) (xs : List T) → IsBlock place k xs → length xs ≤ 512
  block_few k xs own = let all : length xs ≤ 512 * k + 512 - 512 * k = few place (512 * k) (512 * k + 512) xs (block_rises k xs own) (block_within k xs own) in omega (arith, all)

  pub block_room : (k p : ℕ) (xs : List T) → IsBlock place k xs → p / 512 ≡ k → at_place place xs p ≡ None → length xs < 512
  block_room k p xs own is none =
      let more : length xs + 1 ≤ 512 * k + 512 - 512 * k = few_but (512 * k) (512 * k + 512) p xs (block_rises k xs own) (block_within k xs own) (omega (arith, is)) (omega (arith, is)) none in
      omega (arith, more)

  -- an entry of a block has its place there
  pub in_block : (k q : ℕ) (x : T) (xs : List T) → IsBlock place k xs → at_place place xs q ≡ Some x → q / 512 ≡ k
  in_block k q x xs own held = elim (cases_eq (q / 512) k) [
    | inl same ↦ same
    | inr apart ↦ let e : Some x ≡ None = sym held ∙ own.inside q apart in absurd cc
  ]

  pub empty_block : (k : ℕ) → IsBlock place k []
  empty_block k = record { rising = tt; inside = λ q apart. refl }

  -- the list rises
  rises_all : (base : ℕ) (lists : List (List T)) → ((k : ℕ) → IsBlock place (base + k) (list_at lists k)) → RisesFrom place (512 * base) (entries_in lists)
  rises_all base [] each = tt
  rises_all base (xs ∷ lists) each =
      let own : IsBlock place base xs = first_of_all base xs lists each in
      let within : IsWithin place (512 * (base + 1)) xs = λ q far. own.inside q (λ same. omega (arith, same, far)) in
      rises_append (512 * base) (512 * (base + 1)) xs (entries_in lists) (block_rises base xs own) within (omega arith) (rises_all (base + 1) lists (rest_of base xs lists each))

  pub rises_flat : (lists : List (List T)) → ((k : ℕ) → IsBlock place k (list_at lists k)) → IsRising place (entries_in lists)
  rises_flat lists each =
      rises_weaken place 0 (512 * 0) (entries_in lists) (omega arith)
      (rises_all 0 lists (λ k. let same : k ≡ 0 + k = omega arith in subst (λ j. IsBlock place j (list_at lists k)) same (each k)))

  pub empty_flat : (lists : List (List T)) → ((k : ℕ) → list_at lists k ≡ []) → entries_in lists ≡ []
  empty_flat [] none = refl
  empty_flat (xs ∷ lists) none = ap (λ l. l ++ entries_in lists) (none zero) ∙ empty_flat lists (λ k. none (suc k))

  -- ---- searches
  -- a block that isn't listed holds nothing
  unlisted_none : (lists : List (List T)) (used : List ℕ) → ((k : ℕ) → IsBlock place k (list_at lists k)) → ((k : ℕ) → at_place itself used k ≡ listed_if k (list_at lists k))
      → (r : ℕ) → at_place itself used (r / 512) ≡ None → at_place place (entries_in lists) r ≡ None
  unlisted_none lists used each listed r none =
      at_flat lists each r ∙ ap (λ l. at_place place l r) (unlisted (r / 512) (list_at lists (r / 512)) (sym (listed (r / 512)) ∙ none))

  pub first_in : (lists : List (List T)) (p : ℕ) (x : T) → ((k : ℕ) → IsBlock place k (list_at lists k)) → IsFirstFrom place (list_at lists (p / 512)) p (Some x)
      → IsFirstFrom place (entries_in lists) p (Some x)
  first_in lists p x each found =
      let here : place x / 512 ≡ p / 512 = in_block (p / 512) (place x) x (list_at lists (p / 512)) (each (p / 512)) found.1 in (
        found.0,
        at_flat lists each (place x) ∙ ap (λ k. at_place place (list_at lists k) (place x)) here ∙ found.1,
        λ r from below.
            let same : r / 512 ≡ p / 512 = omega (arith, from, below, here) in
            at_flat lists each r ∙ ap (λ k. at_place place (list_at lists k) r) same ∙ found.2 r from below,
      )

  pub first_later : (lists : List (List T)) (used : List ℕ) (p j : ℕ) (x : T) → ((k : ℕ) → IsBlock place k (list_at lists k)) → ((k : ℕ) → at_place itself used k ≡ listed_if k (list_at lists k))
      → IsFirstFrom place (list_at lists (p / 512)) p None → IsFirstFrom itself used (p / 512 + 1) (Some j) → x ≡ get_or (list_at lists j) 0 x
      → IsFirstFrom place (entries_in lists) p (Some x)
  first_later lists used p j x each listed none found is =
      let some : 0 < length (list_at lists j) = listed_some j j (list_at lists j) (sym (listed j) ∙ found.1) in
      let held : at_place place (list_at lists j) (place x) ≡ Some x =
      ap (λ y. at_place place (list_at lists j) (place y)) is ∙ at_held place 0 (list_at lists j) (each j).rising 0 x some ∙ ap Some (sym is) in
      let here : place x / 512 ≡ j = in_block j (place x) x (list_at lists j) (each j) held in (
        omega (arith, here, found.0),
        at_flat lists each (place x) ∙ ap (λ k. at_place place (list_at lists k) (place x)) here ∙ held,
        λ r from below. elim (cases_eq (r / 512) (p / 512)) [
          | inl same ↦ at_flat lists each r ∙ ap (λ k. at_place place (list_at lists k) r) same ∙ none r from
          | inr apart ↦ elim (cases_eq (r / 512) j) [
            | inl last ↦ at_flat lists each r ∙ ap (λ k. at_place place (list_at lists k) r) last ∙ before_first (list_at lists j) x r (each j).rising is some below
            | inr other ↦ unlisted_none lists used each listed r (found.2 (r / 512) (omega (arith, from, apart)) (omega (arith, below, here, other)))
          ]
        ],
      )
    where
      before_first : (xs : List T) (x : T) (r : ℕ) → IsRising place xs → x ≡ get_or xs 0 x → 0 < length xs → r < place x → at_place place xs r ≡ None
      before_first [] x r rising is some below = refl
      before_first (y ∷ ys) x r rising is some below =
          let e : place x ≡ place y = ap place is in
          cond-false (eqb (place y) r) _ _ (ne_eqb _ _ (λ same. omega (arith, same, e, below))) ∙ at_low (place y + 1) ys r rising.1 (omega (arith, e, below))

  pub first_nowhere : (lists : List (List T)) (used : List ℕ) (p : ℕ) → ((k : ℕ) → IsBlock place k (list_at lists k)) → ((k : ℕ) → at_place itself used k ≡ listed_if k (list_at lists k))
      → IsFirstFrom place (list_at lists (p / 512)) p None → IsFirstFrom itself used (p / 512 + 1) None → IsFirstFrom place (entries_in lists) p None
  first_nowhere lists used p each listed none later r from = elim (cases_eq (r / 512) (p / 512)) [
    | inl same ↦ at_flat lists each r ∙ ap (λ k. at_place place (list_at lists k) r) same ∙ none r from
    | inr apart ↦ unlisted_none lists used each listed r (later (r / 512) (omega (arith, from, apart)))
  ]

  -- the block k holds the places below p that no earlier block holds
  pub last_in : (lists : List (List T)) (k p : ℕ) (x : T) → p ≤ 512 * k + 512 → ((k : ℕ) → IsBlock place k (list_at lists k)) → IsLastBelow place (list_at lists k) p (Some x)
      → IsLastBelow place (entries_in lists) p (Some x)
  last_in lists k p x high each found =
      let here : place x / 512 ≡ k = in_block k (place x) x (list_at lists k) (each k) found.1 in (
        found.0,
        at_flat lists each (place x) ∙ ap (λ k. at_place place (list_at lists k) (place x)) here ∙ found.1,
        λ r from below.
            let same : r / 512 ≡ k = omega (arith, from, below, here, high) in
            at_flat lists each r ∙ ap (λ k. at_place place (list_at lists k) r) same ∙ found.2 r from below,
      )

  pub last_earlier : (lists : List (List T)) (used : List ℕ) (k p j i : ℕ) (x : T) → 512 * k < p → p ≤ 512 * k + 512 → ((k : ℕ) → IsBlock place k (list_at lists k))
      → ((k : ℕ) → at_place itself used k ≡ listed_if k (list_at lists k))
      → IsLastBelow place (list_at lists k) p None → IsLastBelow itself used k (Some j) → i + 1 ≡ length (list_at lists j) → x ≡ get_or (list_at lists j) i x
      → IsLastBelow place (entries_in lists) p (Some x)
  last_earlier lists used k p j i x low high each listed none found last is =
      let held : at_place place (list_at lists j) (place x) ≡ Some x =
      ap (λ y. at_place place (list_at lists j) (place y)) is ∙ at_held place 0 (list_at lists j) (each j).rising i x (omega (arith, last)) ∙ ap Some (sym is) in
      let here : place x / 512 ≡ j = in_block j (place x) x (list_at lists j) (each j) held in (
        omega (arith, here, found.0, low),
        at_flat lists each (place x) ∙ ap (λ k. at_place place (list_at lists k) (place x)) here ∙ held,
        λ r from below. elim (cases_eq (r / 512) k) [
          | inl same ↦ at_flat lists each r ∙ ap (λ k. at_place place (list_at lists k) r) same ∙ none r below
          | inr apart ↦ elim (cases_eq (r / 512) j) [
            | inl there ↦ at_flat lists each r ∙ ap (λ k. at_place place (list_at lists k) r) there ∙ after_last (list_at lists j) x i r (each j).rising last is from
            | inr other ↦ unlisted_none lists used each listed r (found.2 (r / 512) (omega (arith, from, here, other)) (omega (arith, below, apart, high)))
          ]
        ],
      )
    where
      after_last : (xs : List T) (x : T) (i r : ℕ) → IsRising place xs → i + 1 ≡ length xs → x ≡ get_or xs i x → place x < r → at_place place xs r ≡ None
      after_last xs x i r rising last is above =
          at_none place xs r (λ k d lt same. elim (cases_eq k i) [
            | inl one ↦
                let e : place (get_or xs k d) ≡ place x = ap (λ z. place (get_or xs z d)) one ∙ ap place (get_or_default xs i d x (omega (arith, last)) ∙ sym is) in
                omega (arith, e, same, above)
            | inr less ↦
                let rise = rises_order place 0 xs rising k i d (omega (arith, less, lt, last)) (omega (arith, last)) in
                let e : place (get_or xs i d) ≡ place x = ap place (get_or_default xs i d x (omega (arith, last)) ∙ sym is) in
                omega (arith, rise, e, same, above)
          ])

  pub last_nowhere : (lists : List (List T)) (used : List ℕ) (k p : ℕ) → p ≤ 512 * k + 512 → ((k : ℕ) → IsBlock place k (list_at lists k)) → ((k : ℕ) → at_place itself used k ≡ listed_if k (list_at lists k))
      → IsLastBelow place (list_at lists k) p None → IsLastBelow itself used k None → IsLastBelow place (entries_in lists) p None
  last_nowhere lists used k p high each listed none earlier r below = elim (cases_eq (r / 512) k) [
    | inl same ↦ at_flat lists each r ∙ ap (λ k. at_place place (list_at lists k) r) same ∙ none r below
    | inr apart ↦ unlisted_none lists used each listed r (earlier (r / 512) (omega (arith, below, apart, high)))
  ]

  -- nothing is held past the blocks
  past_blocks : (lists : List (List T)) (k q : ℕ) → length lists ≤ k → at_place place (list_at lists k) q ≡ None
  past_blocks [] k q far = refl
  past_blocks (xs ∷ lists) zero q far = absurd (omega arith)
  past_blocks (xs ∷ lists) (suc k) q far = past_blocks lists k q (omega arith)

  -- the last of the last block that is listed is the last of all
  pub last_of_all : (lists : List (List T)) (used : List ℕ) (j i : ℕ) (x : T) → ((k : ℕ) → IsBlock place k (list_at lists k)) → ((k : ℕ) → at_place itself used k ≡ listed_if k (list_at lists k))
      → IsLastBelow itself used (length lists) (Some j) → i + 1 ≡ length (list_at lists j) → x ≡ get_or (list_at lists j) i x
      → (q : ℕ) → IsWithin place q (entries_in lists) → IsLastBelow place (entries_in lists) q (Some x)
  last_of_all lists used j i x each listed found last is q within =
      let p : ℕ = 512 * length lists + 512 in
      let base : IsLastBelow place (entries_in lists) p (Some x) =
      last_earlier lists used (length lists) p j i x (omega arith) (omega arith) each listed (λ r below. past_blocks lists (length lists) r (omega arith)) found last is in (
        elim (cases_lt (place x) q) [
          | inl less ↦ less
          | inr far ↦ let e : Some x ≡ None = sym base.1 ∙ within (place x) far in absurd cc
        ],
        base.1,
        λ r from below. elim (cases_lt r p) [
          | inl less ↦ base.2 r from less
          | inr far ↦ at_flat lists each r ∙ past_blocks lists (r / 512) r (omega (arith, far))
        ],
      )

  -- the last number that is listed is one of a block, and no other block after it is listed
  pub last_listed : (lists : List (List T)) (used : List ℕ) (i j : ℕ) → IsRising itself used → ((k : ℕ) → at_place itself used k ≡ listed_if k (list_at lists k)) → i + 1 ≡ length used
      → j ≡ get_or used i j → IsLastBelow itself used (length lists) (Some j)
  last_listed lists used i j rising listed last is =
      last_found itself used (length lists) i j rising (
        λ k d within lt. (let inside = listed_inside lists used k rising listed (omega (arith, lt, last)) in omega (arith, inside.1, get_or_default used k 0 d (omega (arith, lt, last)))),
        λ k d from lt. absurd (omega (arith, from, lt, last)),
      ) (omega (arith, last)) is

  pub none_of_all : (lists : List (List T)) (used : List ℕ) → ((k : ℕ) → IsBlock place k (list_at lists k)) → ((k : ℕ) → at_place itself used k ≡ listed_if k (list_at lists k))
      → length used ≡ 0 → (q : ℕ) → IsLastBelow place (entries_in lists) q None
  none_of_all lists [] each listed none q = λ r below. unlisted_none lists [] each listed r refl
  none_of_all lists (x ∷ used) each listed none q = absurd (omega (arith, none))

  -- ---- how many
  pub block_length : (lists : List (List T)) (k : ℕ) → length (list_at lists k) ≤ length (entries_in lists)
  block_length [] k = omega arith
  block_length (xs ∷ lists) zero = omega (arith, length-append xs (entries_in lists))
  block_length (xs ∷ lists) (suc k) = let more = block_length lists k in omega (arith, more, length-append xs (entries_in lists))

  first_number : (u : ℕ) (used : List ℕ) → at_place itself (u ∷ used) u ≡ Some u
  first_number u used = cond-true (eqb u u) _ _ (eq-eqb _ _ refl)

  used_from : (base : ℕ) (lists : List (List T)) (used : List ℕ) → RisesFrom itself base used → ((k : ℕ) → at_place itself used (base + k) ≡ listed_if (base + k) (list_at lists k))
      → length used ≤ length (entries_in lists)
  used_from base lists [] rising listed = omega arith
  used_from base [] (u ∷ used) rising listed =
      let back : base + (u - base) ≡ u = omega (arith, rising.0) in
      let e : Some u ≡ None = sym (first_number u used) ∙ ap (at_place itself (u ∷ used)) (sym back) ∙ listed (u - base) in absurd cc
  used_from base (xs ∷ lists) (u ∷ used) rising listed =
      let next : (k : ℕ) → at_place itself (u ∷ used) (base + 1 + k) ≡ listed_if (base + 1 + k) (list_at lists k) =
      λ k. (let same : base + suc k ≡ base + 1 + k = omega arith in subst (λ j. at_place itself (u ∷ used) j ≡ listed_if j (list_at lists k)) same (listed (suc k))) in
      elim (cases_eq u base) [
        | inl same ↦
            let first : listed_if base xs ≡ Some u =
            ap (λ j. listed_if j xs) (omega arith) ∙ sym (listed zero) ∙ ap (at_place itself (u ∷ used)) (omega (arith, same)) ∙ first_number u used in
            let some : 0 < length xs = listed_some base u xs first in
            let more = used_from (base + 1) lists used (subst (λ n. RisesFrom itself (n + 1) used) same rising.1)
            (λ k. sym (cond-false (eqb u (base + 1 + k)) _ _ (ne_eqb _ _ (λ e. omega (arith, e, same)))) ∙ next k) in
            omega (arith, more, some, length-append xs (entries_in lists))
        | inr apart ↦
            let more = used_from (base + 1) lists (u ∷ used) (omega (arith, rising.0, apart), rising.1) next in
            omega (arith, more, length-append xs (entries_in lists))
      ]

  -- no more blocks are listed than there are entries
  pub used_few : (lists : List (List T)) (used : List ℕ) → IsRising itself used → ((k : ℕ) → at_place itself used k ≡ listed_if k (list_at lists k)) → length used ≤ length (entries_in lists)
  used_few lists used rising listed =
      used_from 0 lists used rising (λ k. let same : k ≡ 0 + k = omega arith in subst (λ j. at_place itself used j ≡ listed_if j (list_at lists k)) same (listed k))

  -- ---- blocks that were cut
  abbrev pub IsCut : ℕ → ℕ → List (List T) → ℕ → List T → Type 0
  IsCut from to old k xs = IsRising place xs × ((q : ℕ) → at_place place xs q ≡ cond (leb from q && ltb q to) None (at_place place (list_at old k) q))

  none_either_way : (t : Bool) → cond {A = Option T} t None None ≡ None
  none_either_way true = refl
  none_either_way false = refl

  pub cut_empty : (from to : ℕ) (old : List (List T)) (k : ℕ) → list_at old k ≡ [] → IsCut from to old k (list_at old k)
  cut_empty from to old k none =
      subst (λ l. IsRising place l × ((q : ℕ) → at_place place l q ≡ cond (leb from q && ltb q to) None (at_place place l q))) (sym none)
      (tt, λ q. sym (none_either_way (leb from q && ltb q to)))

  pub uncut : (from to : ℕ) (xs : List T) (q : ℕ) → (from ≤ q → q < to → at_place place xs q ≡ None) → at_place place xs q ≡ cond (leb from q && ltb q to) None (at_place place xs q)
  uncut from to xs q none =
      let A : Option T = at_place place xs q in
      elim (cases_lt q from) [
        | inl less ↦ sym (ap (λ t. cond (t && ltb q to) None A) (lt-leb _ _ less))
        | inr from_here ↦ elim (cases_lt q to) [
          | inl inside ↦ none from_here inside ∙ sym (ap (λ t. cond (t && ltb q to) None A) (le-leb _ _ from_here) ∙ ap (λ t. cond t None A) (lt-ltb _ _ inside))
          | inr past ↦ sym (ap (λ t. cond (t && ltb q to) None A) (le-leb _ _ from_here) ∙ ap (λ t. cond t None A) (le-ltb _ _ past))
        ]
      ]

  pub cut_before : (from to : ℕ) (old : List (List T)) (k : ℕ) → IsBlock place k (list_at old k) → k < from / 512 → IsCut from to old k (list_at old k)
  cut_before from to old k own lt = (own.rising, λ q. uncut from to (list_at old k) q (λ at below. own.inside q (λ same. omega (arith, same, lt, at))))

  pub cut_after : (from to : ℕ) (old : List (List T)) (k : ℕ) → IsBlock place k (list_at old k) → (to - 1) / 512 < k → IsCut from to old k (list_at old k)
  cut_after from to old k own lt = (own.rising, λ q. uncut from to (list_at old k) q (λ at below. own.inside q (λ same. omega (arith, same, lt, below))))

  -- a block that is not the one of all these places
  pub cut_other : (from to : ℕ) (old : List (List T)) (k : ℕ) → IsBlock place k (list_at old k) → from / 512 ≡ (to - 1) / 512 → k ≢ from / 512 → IsCut from to old k (list_at old k)
  cut_other from to old k own one apart = (own.rising, λ q. uncut from to (list_at old k) q (λ at below. own.inside q (λ same. apart (omega (arith, same, at, below, one)))))

  pub cut_own : (from to : ℕ) (old now : List (List T)) (k : ℕ) → IsBlock place k (list_at old k) → ((q : ℕ) → at_place place (list_at now k) q ≡ cond (leb from q && ltb q to) None (at_place place (list_at old k) q))
      → IsRising place (list_at now k) → IsBlock place k (list_at now k)
  cut_own from to old now k own cut rising =
      record { rising = rising; inside = λ q apart. cut q ∙ ap (cond (leb from q && ltb q to) None) (own.inside q apart) ∙ none_either_way _ }

  -- all blocks are cut once those between the first and the last are
  pub cut_done : (from to i : ℕ) (old now : List (List T)) (used : List ℕ) → IsRising itself used → ((k : ℕ) → IsBlock place k (list_at old k)) → ((k : ℕ) → at_place itself used k ≡ listed_if k (list_at old k))
      → Parts itself used ((to - 1) / 512 + 1) i → i ≤ length used → Walked (IsCut from to old) old now (bound used i) → (k : ℕ) → IsCut from to old k (list_at now k)
  cut_done from to i old now used rising each listed parts within walked =
      walk_end (IsCut from to old) old used rising (λ k none. cut_empty from to old k (unlisted k (list_at old k) (sym (listed k) ∙ none))) now (bound used i) walked
      (λ k low. elim (cases_lt ((to - 1) / 512) k) [
        | inl above ↦ cut_after from to old k (each k) above
        | inr upto ↦
            let none = quiet used i k rising within low (λ j late lt. let far : (to - 1) / 512 + 1 ≤ get_or used j 0 = parts.1 j 0 late lt in omega (arith, far, upto)) in
            cut_empty from to old k (unlisted k (list_at old k) (sym (listed k) ∙ none))
      ])

  -- no number is listed below the first block that is looked at
  pub bound_below : (used : List ℕ) (first start : ℕ) → ((j d : ℕ) → j < length used → j < start → get_or used j d < first) → start ≤ length used → bound used start ≤ first
  bound_below used first zero parts within = omega arith
  bound_below used first (suc i) parts within =
      let next : bound used (i + 1) ≡ get_or used i 0 + 1 = bound_next used i in
      let one : suc i ≡ i + 1 = omega arith in
      let below : get_or used i 0 < first = parts i 0 (omega arith) (omega arith) in
      omega (arith, next, below, ap (bound used) one)

  -- ---- an entry that is stored in its block
  pub stored_own : (old now : List (List T)) (entry : T) → IsBlock place (place entry / 512) (list_at old (place entry / 512))
      → ((q : ℕ) → at_place place (list_at now (place entry / 512)) q ≡ cond (eqb (place entry) q) (Some entry) (at_place place (list_at old (place entry / 512)) q))
      → IsRising place (list_at now (place entry / 512)) → IsBlock place (place entry / 512) (list_at now (place entry / 512))
  stored_own old now entry own stored rising =
      record {
        rising = rising;
        inside = λ q apart. stored q ∙ cond-false (eqb (place entry) q) _ _ (ne_eqb _ _ (λ same. apart (ap (λ p. p / 512) (sym same)))) ∙ own.inside q apart;
      }

  pub stored_each : (old now : List (List T)) (entry : T) → ((k : ℕ) → IsBlock place k (list_at old k))
      → ((q : ℕ) → at_place place (list_at now (place entry / 512)) q ≡ cond (eqb (place entry) q) (Some entry) (at_place place (list_at old (place entry / 512)) q))
      → IsRising place (list_at now (place entry / 512)) → ((j : ℕ) → j ≢ place entry / 512 → list_at now j ≡ list_at old j) → (k : ℕ) → IsBlock place k (list_at now k)
  stored_each old now entry each stored rising others k =
      elim (cases_eq k (place entry / 512)) [
        | inl same ↦ subst (λ j. IsBlock place j (list_at now j)) (sym same) (stored_own old now entry (each (place entry / 512)) stored rising)
        | inr apart ↦ subst (IsBlock place k) (sym (others k apart)) (each k)
      ]

  pub stored_flat : (old now : List (List T)) (entry : T) → ((k : ℕ) → IsBlock place k (list_at old k)) → ((k : ℕ) → IsBlock place k (list_at now k))
      → ((q : ℕ) → at_place place (list_at now (place entry / 512)) q ≡ cond (eqb (place entry) q) (Some entry) (at_place place (list_at old (place entry / 512)) q))
      → ((j : ℕ) → j ≢ place entry / 512 → list_at now j ≡ list_at old j) → (q : ℕ) → at_place place (entries_in now) q ≡ cond (eqb (place entry) q) (Some entry) (at_place place (entries_in old) q)
  stored_flat old now entry each after stored others q =
      at_flat now after q
      ∙ (elim (cases_eq (q / 512) (place entry / 512)) [
        | inl same ↦ ap (λ k. at_place place (list_at now k) q) same ∙ stored q ∙ ap (λ k. cond (eqb (place entry) q) (Some entry) (at_place place (list_at old k) q)) (sym same)
        | inr apart ↦
            ap (λ l. at_place place l q) (others (q / 512) apart)
            ∙ sym (cond-false (eqb (place entry) q) (Some entry) (at_place place (list_at old (q / 512)) q) (ne_eqb _ _ (λ same. apart (ap (λ p. p / 512) (sym same)))))
      ])
      ∙ ap (cond (eqb (place entry) q) (Some entry)) (sym (at_flat old each q))

  -- a block that holds an entry at a place isn't empty
  pub not_empty : (xs : List T) (q : ℕ) (x : T) → at_place place xs q ≡ Some x → 0 < length xs
  not_empty [] q x held = absurd (let e = held in cc)
  not_empty (y ∷ ys) q x held = omega arith

  some_listed : (k : ℕ) (xs : List T) → 0 < length xs → listed_if k xs ≡ Some k
  some_listed k [] some = absurd (omega arith)
  some_listed k (x ∷ xs) some = refl

  -- the number of the block is listed once more
  pub stored_listed : (old now : List (List T)) (used after : List ℕ) (entry : T) → ((k : ℕ) → at_place itself used k ≡ listed_if k (list_at old k))
      → ((k : ℕ) → at_place itself after k ≡ cond (eqb (place entry / 512) k) (Some (place entry / 512)) (at_place itself used k))
      → ((q : ℕ) → at_place place (list_at now (place entry / 512)) q ≡ cond (eqb (place entry) q) (Some entry) (at_place place (list_at old (place entry / 512)) q))
      → ((j : ℕ) → j ≢ place entry / 512 → list_at now j ≡ list_at old j) → (k : ℕ) → at_place itself after k ≡ listed_if k (list_at now k)
  stored_listed old now used after entry listed noted stored others k =
      let number : ℕ = place entry / 512 in
      let there : 0 < length (list_at now number) =
      not_empty (list_at now number) (place entry) entry (stored (place entry) ∙ cond-true (eqb (place entry) (place entry)) _ _ (eq-eqb _ _ refl)) in
      elim (cases_eq number k) [
        | inl same ↦
            noted k ∙ cond-true (eqb number k) _ _ (eq-eqb _ _ same) ∙ ap Some same
            ∙ sym (some_listed k (list_at now k) (subst (λ j. 0 < length (list_at now j)) same there))
        | inr apart ↦ noted k ∙ cond-false (eqb number k) _ _ (ne_eqb _ _ apart) ∙ listed k ∙ ap (listed_if k) (sym (others k (λ same. apart (sym same))))
      ]

  -- where it was listed before
  pub noted_before : (xs : List T) (used : List ℕ) (number : ℕ) → at_place itself used number ≡ listed_if number xs → 0 < length xs
      → (k : ℕ) → at_place itself used k ≡ cond (eqb number k) (Some number) (at_place itself used k)
  noted_before xs used number listed some k = elim (cases_eq number k) [
    | inl same ↦ ap (at_place itself used) (sym same) ∙ listed ∙ some_listed number xs some ∙ sym (cond-true (eqb number k) _ _ (eq-eqb _ _ same))
    | inr apart ↦ sym (cond-false (eqb number k) _ _ (ne_eqb _ _ apart))
  ]

  -- ---- the numbers after a cut
  none_in : (t : Bool) (o : Option T) → o ≡ None → cond t None o ≡ None
  none_in true o e = refl
  none_in false o e = e

  -- a block that held nothing holds nothing
  still_empty : (from to : ℕ) (old now : List (List T)) (k : ℕ) → ((q : ℕ) → at_place place (list_at now k) q ≡ cond (leb from q && ltb q to) None (at_place place (list_at old k) q))
      → list_at old k ≡ [] → list_at now k ≡ []
  still_empty from to old now k cut none =
      empty_of (list_at now k) (λ q. cut q ∙ none_in (leb from q && ltb q to) (at_place place (list_at old k) q) (ap (λ l. at_place place l q) none))

  -- a block between the first and the last holds nothing
  all_gone : (from to : ℕ) (old now : List (List T)) (k : ℕ) → IsBlock place k (list_at old k)
      → ((q : ℕ) → at_place place (list_at now k) q ≡ cond (leb from q && ltb q to) None (at_place place (list_at old k) q)) → from / 512 < k → k < (to - 1) / 512 → list_at now k ≡ []
  all_gone from to old now k own cut above below =
      empty_of (list_at now k) (λ q. cut q ∙ (elim (cases_eq (q / 512) k) [
        | inl same ↦
            let A : Option T = at_place place (list_at old k) q in
            ap (λ t. cond (t && ltb q to) None A) (le-leb from q (omega (arith, same, above))) ∙ ap (λ t. cond t None A) (lt-ltb q to (omega (arith, same, below)))
        | inr apart ↦ none_in (leb from q && ltb q to) (at_place place (list_at old k) q) (own.inside q apart)
      ]))

  -- a block outside holds what it held
  was_empty : (from to : ℕ) (old now : List (List T)) (k : ℕ) → IsBlock place k (list_at old k)
      → ((q : ℕ) → at_place place (list_at now k) q ≡ cond (leb from q && ltb q to) None (at_place place (list_at old k) q)) → ((q : ℕ) → q / 512 ≡ k → from ≤ q → q < to → ⊥)
      → list_at now k ≡ [] → list_at old k ≡ []
  was_empty from to old now k own cut outside none =
      empty_of (list_at old k) (λ q. uncut from to (list_at old k) q (λ at below. elim (cases_eq (q / 512) k) [
        | inl same ↦ absurd (outside q same at below)
        | inr apart ↦ own.inside q apart
      ]) ∙ sym (cut q) ∙ ap (λ l. at_place place l q) none)

  pub cut_listed : (from to low high : ℕ) (old now : List (List T)) (used after : List ℕ) → from < to → ((k : ℕ) → IsBlock place k (list_at old k))
      → ((k : ℕ) → at_place itself used k ≡ listed_if k (list_at old k))
      → ((k q : ℕ) → at_place place (list_at now k) q ≡ cond (leb from q && ltb q to) None (at_place place (list_at old k) q))
      → from / 512 ≤ low → (low ≤ from / 512 → list_at now (from / 512) ≡ []) → (from / 512 < low → (low ≡ from / 512 + 1) × (0 < length (list_at now (from / 512))))
      → high ≤ (to - 1) / 512 + 1 → ((to - 1) / 512 < high → list_at now ((to - 1) / 512) ≡ []) → (high ≤ (to - 1) / 512 → (high ≡ (to - 1) / 512) × (0 < length (list_at now ((to - 1) / 512))))
      → ((k : ℕ) → at_place itself after k ≡ cond (leb low k && ltb k high) None (at_place itself used k))
      → (k : ℕ) → at_place itself after k ≡ listed_if k (list_at now k)
  cut_listed from to low high old now used after order each listed cut low_from low_empty low_some high_to high_empty high_some gone k =
      elim (cases_lt k low) [
        | inl early ↦ kept (ap (λ t. cond (t && ltb k high) None (at_place itself used k)) (lt-leb low k early)) (λ none. back_early early none)
        | inr from_low ↦ elim (cases_lt k high) [
          | inl inside ↦
              gone k ∙ ap (λ t. cond (t && ltb k high) None (at_place itself used k)) (le-leb low k from_low) ∙ ap (λ t. cond t None (at_place itself used k)) (lt-ltb k high inside)
              ∙ sym (ap (listed_if k) (empty_here from_low inside))
          | inr late ↦
              kept (ap (λ t. cond (t && ltb k high) None (at_place itself used k)) (le-leb low k from_low) ∙ ap (λ t. cond t None (at_place itself used k)) (le-ltb k high late))
              (λ none. back_late late none)
        ]
      ]
    where
      kept : cond (leb low k && ltb k high) None (at_place itself used k) ≡ at_place itself used k → (list_at now k ≡ [] → list_at old k ≡ []) → at_place itself after k ≡ listed_if k (list_at now k)
      kept same back = gone k ∙ same ∙ listed k ∙ listed_alike k (list_at old k) (list_at now k) (still_empty from to old now k (cut k)) back

      not_some : (j : ℕ) → k ≡ j → 0 < length (list_at now j) → list_at now k ≡ [] → ⊥
      not_some j same some none = let e : length (list_at now j) ≡ 0 = ap (λ i. length (list_at now i)) (sym same) ∙ ap length none in omega (arith, e, some)

      back_early : k < low → list_at now k ≡ [] → list_at old k ≡ []
      back_early early none = elim (cases_lt k (from / 512)) [
        | inl less ↦ was_empty from to old now k (each k) (cut k) (λ q same at below. omega (arith, same, less, at)) none
        | inr up ↦
            let some = low_some (omega (arith, up, early)) in
            absurd (not_some (from / 512) (omega (arith, up, early, some.0)) some.1 none)
      ]

      back_late : high ≤ k → list_at now k ≡ [] → list_at old k ≡ []
      back_late late none = elim (cases_lt ((to - 1) / 512) k) [
        | inl more ↦ was_empty from to old now k (each k) (cut k) (λ q same at below. omega (arith, same, more, below)) none
        | inr upto ↦
            let some = high_some (omega (arith, upto, late)) in
            absurd (not_some ((to - 1) / 512) (omega (arith, upto, late, some.0)) some.1 none)
      ]

      empty_here : low ≤ k → k < high → list_at now k ≡ []
      empty_here from_low inside = elim (cases_eq k (from / 512)) [
        | inl first ↦ ap (list_at now) first ∙ low_empty (omega (arith, first, from_low))
        | inr above ↦ elim (cases_eq k ((to - 1) / 512)) [
          | inl last ↦ ap (list_at now) last ∙ high_empty (omega (arith, last, inside))
          | inr below ↦ all_gone from to old now k (each k) (cut k) (omega (arith, above, low_from, from_low)) (omega (arith, below, high_to, inside))
        ]
      ]

  pub cut_flat : (from to : ℕ) (old now : List (List T)) → ((k : ℕ) → IsBlock place k (list_at old k)) → ((k : ℕ) → IsBlock place k (list_at now k))
      → ((k q : ℕ) → at_place place (list_at now k) q ≡ cond (leb from q && ltb q to) None (at_place place (list_at old k) q))
      → (q : ℕ) → at_place place (entries_in now) q ≡ cond (leb from q && ltb q to) None (at_place place (entries_in old) q)
  cut_flat from to old now each after cut q =
      at_flat now after q ∙ cut (q / 512) q ∙ ap (cond (leb from q && ltb q to) None) (sym (at_flat old each q))

  -- nothing is cut where the bounds are crossed
  pub uncut_crossed : (low high : ℕ) (xs : List T) → high ≤ low → (q : ℕ) → at_place place xs q ≡ cond (leb low q && ltb q high) None (at_place place xs q)
  uncut_crossed low high xs crossed q = uncut low high xs q (λ at below. absurd (omega (arith, at, below, crossed)))

  -- ---- a copy
  pub copy_flat : (lists now : List (List T)) → ((k : ℕ) → IsBlock place k (list_at lists k)) → ((k : ℕ) → IsBlock place k (list_at now k)) → ((k : ℕ) → list_at now k ≡ list_at lists k)
      → (q : ℕ) → at_place place (entries_in now) q ≡ at_place place (entries_in lists) q
  copy_flat lists now each after same q = at_flat now after q ∙ ap (λ l. at_place place l q) (same (q / 512)) ∙ sym (at_flat lists each q)

  -- a block that holds something has a place below the room
  pub block_below : (lists : List (List T)) (room k : ℕ) → ((k : ℕ) → IsBlock place k (list_at lists k)) → IsWithin place room (entries_in lists) → 0 < length (list_at lists k) → k < room / 512 + 1
  block_below lists room k each within some = first_place (list_at lists k) refl some
    where
      first_place : (xs : List T) → list_at lists k ≡ xs → 0 < length (list_at lists k) → k < room / 512 + 1
      first_place [] is some = absurd (omega (arith, ap length is, some))
      first_place (x ∷ xs) is some =
          let held : at_place place (list_at lists k) (place x) ≡ Some x = ap (λ l. at_place place l (place x)) is ∙ first_held x xs in
          let here : place x / 512 ≡ k = in_block k (place x) x (list_at lists k) (each k) held in
          let flat : at_place place (entries_in lists) (place x) ≡ Some x = at_flat lists each (place x) ∙ ap (λ j. at_place place (list_at lists j) (place x)) here ∙ held in
          elim (cases_lt (place x) room) [
            | inl less ↦ omega (arith, here, less)
            | inr far ↦ let e : Some x ≡ None = sym flat ∙ within (place x) far in absurd cc
          ]

  -- no more numbers are listed than there are blocks up to the room
  pub used_below : (lists : List (List T)) (room : ℕ) (used : List ℕ) → ((k : ℕ) → IsBlock place k (list_at lists k)) → IsWithin place room (entries_in lists) → IsRising itself used
      → ((k : ℕ) → at_place itself used k ≡ listed_if k (list_at lists k)) → length used ≤ room / 512 + 1
  used_below lists room used each within rising listed =
      let far_none : (k : ℕ) → room / 512 + 1 ≤ k → at_place itself used k ≡ None = λ k far. listed k ∙ none_listed k (list_at lists k) (λ some.
      let below : k < room / 512 + 1 = block_below lists room k each within some in omega (arith, far, below)) in
      let all : length used ≤ room / 512 + 1 - 0 = few itself 0 (room / 512 + 1) used rising far_none in
      omega (arith, all)
    where
      none_listed : (k : ℕ) (xs : List T) → (0 < length xs → ⊥) → listed_if k xs ≡ None
      none_listed k [] none = refl
      none_listed k (x ∷ xs) none = absurd (none (omega arith))

  -- ---- entries that are changed at their places
  map_rises : (f : T → T) → ((x : T) → place (f x) ≡ place x) → (low : ℕ) (xs : List T) → RisesFrom place low xs → RisesFrom place low (map f xs)
  map_rises f stays low [] h = tt
  map_rises f stays low (x ∷ xs) h =
      (omega (arith, h.0, stays x), subst (λ p. RisesFrom place (p + 1) (map f xs)) (sym (stays x)) (map_rises f stays (place x + 1) xs h.1))

  map_none : (f : T → T) → ((x : T) → place (f x) ≡ place x) → (xs : List T) (q : ℕ) → at_place place xs q ≡ None → at_place place (map f xs) q ≡ None
  map_none f stays [] q none = refl
  map_none f stays (x ∷ xs) q none = elim (cases_eq (place x) q) [
    | inl same ↦ let e : Some x ≡ None = sym (cond-true (eqb (place x) q) _ _ (eq-eqb _ _ same)) ∙ none in absurd cc
    | inr apart ↦
        cond-false (eqb (place (f x)) q) _ _ (ne_eqb _ _ (λ same. apart (sym (stays x) ∙ same)))
        ∙ map_none f stays xs q (sym (cond-false (eqb (place x) q) _ _ (ne_eqb _ _ apart)) ∙ none)
  ]

  pub changed_block : (f : T → T) → ((x : T) → place (f x) ≡ place x) → (old now : List (List T)) (k : ℕ) → IsBlock place k (list_at old k) → list_at now k ≡ map f (list_at old k)
      → IsBlock place k (list_at now k)
  changed_block f stays old now k own is =
      subst (IsBlock place k) (sym is)
      (record { rising = map_rises f stays 0 (list_at old k) own.rising; inside = λ q apart. map_none f stays (list_at old k) q (own.inside q apart) })

-- ---- facts of blocks whatever their places
module _ {T : Type 0} where
  map_listed : (f : T → T) (k : ℕ) (xs : List T) → listed_if k xs ≡ listed_if k (map f xs)
  map_listed f k [] = refl
  map_listed f k (x ∷ xs) = refl

  pub changed_listed : (f : T → T) (old now : List (List T)) (k : ℕ) → list_at now k ≡ map f (list_at old k) → listed_if k (list_at old k) ≡ listed_if k (list_at now k)
  changed_listed f old now k is = map_listed f k (list_at old k) ∙ ap (listed_if k) (sym is)

  pub changed_flat : (f : T → T) (old now : List (List T)) → length now ≡ length old → ((k : ℕ) → list_at now k ≡ map f (list_at old k)) → entries_in now ≡ map f (entries_in old)
  changed_flat f [] [] len each = refl
  changed_flat f [] (ys ∷ now) len each = absurd (omega (arith, len))
  changed_flat f (xs ∷ old) [] len each = absurd (omega (arith, len))
  changed_flat f (xs ∷ old) (ys ∷ now) len each =
      ap (λ l. l ++ entries_in now) (each zero) ∙ ap (λ l. map f xs ++ l) (changed_flat f old now (omega (arith, len)) (λ k. each (suc k))) ∙ sym (map-append f xs (entries_in old))

  pub is_empty : (xs : List T) → eqb (length xs) 0 ≡ true → xs ≡ []
  is_empty [] e = refl
  is_empty (x ∷ xs) e = let some : length (x ∷ xs) ≡ 0 = eqb-true (length (x ∷ xs)) 0 e in absurd (omega (arith, some))

  pub some_there : (xs : List T) → eqb (length xs) 0 ≡ false → 0 < length xs
  some_there [] e = absurd (let same = sym e ∙ eq-eqb 0 0 refl in cc)
  some_there (x ∷ xs) e = omega arith

  past_end : (lists : List (List T)) (k : ℕ) → length lists ≤ k → list_at lists k ≡ []
  past_end [] k far = refl
  past_end (xs ∷ lists) zero far = absurd (omega arith)
  past_end (xs ∷ lists) (suc k) far = past_end lists k (omega arith)

  -- there is room for one more number
  pub used_room : (lists : List (List T)) (used : List ℕ) (number : ℕ) → IsRising itself used → ((k : ℕ) → at_place itself used k ≡ listed_if k (list_at lists k)) → number < length lists
      → at_place itself used number ≡ None → length used + 1 ≤ length lists
  used_room lists used number rising listed inside none =
      let within : IsWithin itself (length lists) used = λ k far. listed k ∙ ap (listed_if k) (past_end lists k far) in
      let more : length used + 1 ≤ length lists - 0 = few_but itself 0 (length lists) number used rising within (omega arith) inside none in
      omega (arith, more)

  -- ---- counting from block to block
  split_at : (lists : List (List T)) (i : ℕ) → i < length lists → entries_in (drop i lists) ≡ list_at lists i ++ entries_in (drop (i + 1) lists)
  split_at lists i lt = let one : suc i ≡ i + 1 = omega arith in ap entries_in (drop-cons lists i [] lt) ∙ ap (λ k. list_at lists i ++ entries_in (drop k lists)) one

  pub count_more : (lists : List (List T)) (i total : ℕ) → i < length lists → length (entries_in lists) ≡ total + length (entries_in (drop i lists))
      → length (entries_in lists) ≡ total + length (list_at lists i) + length (entries_in (drop (i + 1) lists))
  count_more lists i total lt counted =
      let e = ap length (split_at lists i lt) in
      let both : length (entries_in (drop i lists)) ≡ length (list_at lists i) + length (entries_in (drop (i + 1) lists)) = e ∙ length-append (list_at lists i) (entries_in (drop (i + 1) lists)) in
      omega (arith, counted, both)

  get_left : (xs ys : List T) (i : ℕ) → i < length xs → slice_get (xs ++ ys) i ≡ slice_get xs i
  get_left [] ys i lt = absurd (omega arith)
  get_left (x ∷ xs) ys zero lt = refl
  get_left (x ∷ xs) ys (suc i) lt = get_left xs ys i (omega arith)

  get_right : (xs ys : List T) (i : ℕ) → slice_get (xs ++ ys) (length xs + i) ≡ slice_get ys i
  get_right [] ys i = let e : 0 + i ≡ i = omega arith in ap (slice_get ys) e
  get_right (x ∷ xs) ys i = let e : length (x ∷ xs) + i ≡ suc (length xs + i) = omega arith in ap (slice_get (x ∷ xs ++ ys)) e ∙ get_right xs ys i

  pub get_here : (lists : List (List T)) (i left : ℕ) (x : T) → i < length lists → left < length (list_at lists i) → x ≡ get_or (list_at lists i) left x
      → Some x ≡ slice_get (entries_in (drop i lists)) left
  get_here lists i left x lt inside is =
      ap Some is ∙ sym (slice_get-get_or (list_at lists i) left x inside) ∙ sym (get_left (list_at lists i) (entries_in (drop (i + 1) lists)) left inside)
      ∙ ap (λ l. slice_get l left) (sym (split_at lists i lt))

  pub get_later : (lists : List (List T)) (i left : ℕ) → i < length lists → length (list_at lists i) ≤ left
      → slice_get (entries_in (drop i lists)) left ≡ slice_get (entries_in (drop (i + 1) lists)) (left - length (list_at lists i))
  get_later lists i left lt past =
      let e : left ≡ length (list_at lists i) + (left - length (list_at lists i)) = omega arith in
      ap (λ l. slice_get l left) (split_at lists i lt) ∙ ap (slice_get (list_at lists i ++ entries_in (drop (i + 1) lists))) e
      ∙ get_right (list_at lists i) (entries_in (drop (i + 1) lists)) (left - length (list_at lists i))

  pub none_after : (lists : List (List T)) (i : ℕ) → length lists ≤ i → entries_in (drop i lists) ≡ []
  none_after [] zero far = refl
  none_after [] (suc i) far = refl
  none_after (xs ∷ lists) zero far = absurd (omega arith)
  none_after (xs ∷ lists) (suc i) far = none_after lists i (omega arith)
