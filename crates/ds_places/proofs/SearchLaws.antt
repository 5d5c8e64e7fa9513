-- What a search by halving finds, from where it parts the list.
use Rattle.std.proofs.Common.{◌≡◌, ◌≢◌, ℕ, ◌+◌, ◌<◌, ◌≤◌, List, length, get_or, Some, None, Ok, Err, sym, ◌∙◌, ap, arith, inl, inr}
use Rattle.std.specs.List.Sorted.{IsPartitionPoint}
use Rattle.std.proofs.lemmas.Bool.{cases_lt, cases_eq}
use Rattle.std.proofs.lemmas.List.{get_or_default}
use Rattle.ds_places.specs.Places.{at_place, IsRising}
use Rattle.ds_places.specs.Nearest.{IsSlot, IsLastBelow, IsFirstFrom}
use Rattle.ds_places.proofs.ListLaws.{rises_order, at_none, at_held}

module _ {T : Type 0} (place : T → ℕ) where
  abbrev pub Parts : List T → ℕ → ℕ → Type 0
  Parts xs q i = IsPartitionPoint (λ x. place x < q) (λ x. q ≤ place x) xs i

  is_held : (xs : List T) (k : ℕ) (x : T) → IsRising place xs → k < length xs → x ≡ get_or xs k x → at_place place xs (place x) ≡ Some x
  is_held xs k x rising lt is =
      ap (λ y. at_place place xs (place y)) is ∙ at_held place 0 xs rising k x lt ∙ ap Some (sym is)

  -- nothing lies between two neighbours
  between : (xs : List T) (q i : ℕ) → IsRising place xs → Parts xs q i → (r : ℕ) → ((k : ℕ) (d : T) → k < i → place (get_or xs k d) < q → place (get_or xs k d) ≢ r)
      → ((k : ℕ) (d : T) → i ≤ k → k < length xs → q ≤ place (get_or xs k d) → place (get_or xs k d) ≢ r) → at_place place xs r ≡ None
  between xs q i rising parts r early late =
      at_none place xs r (λ k d lt. elim (cases_lt k i) [
        | inl before ↦ early k d before (parts.0 k d (omega arith) before)
        | inr from ↦ late k d from lt (parts.1 k d from lt)
      ])

  -- the last entry has a place below q: so has each
  pub parts_last : (xs : List T) (q i : ℕ) (x : T) → IsRising place xs → i + 1 ≡ length xs → x ≡ get_or xs i x → place x < q → Parts xs q (length xs)
  parts_last xs q i x rising last is small = (
    λ k d from lt. elim (cases_eq k i) [
      | inl here ↦
          let e : place (get_or xs k d) ≡ place x = ap (λ z. place (get_or xs z d)) here ∙ ap place (get_or_default xs i d x (omega arith) ∙ sym is) in
          omega (arith, small, e)
      | inr earlier ↦
          let more = rises_order place 0 xs rising k i d (omega arith) (omega arith) in
          let e : place (get_or xs i d) ≡ place x = ap place (get_or_default xs i d x (omega arith) ∙ sym is) in
          omega (arith, small, more, e)
    ],
    λ k d from lt. absurd (omega arith),
  )

  -- the entry at i has a place below q: so has each up to it
  pub small_to : (xs : List T) (q i : ℕ) (x : T) → IsRising place xs → i < length xs → x ≡ get_or xs i x → place x < q
      → (k : ℕ) (d : T) → k < i + 1 → place (get_or xs k d) < q
  small_to xs q i x rising lt is small k d up =
      let e : place (get_or xs i d) ≡ place x = ap place (get_or_default xs i d x lt ∙ sym is) in
      elim (cases_eq k i) [
        | inl here ↦ omega (arith, small, e, ap (λ z. place (get_or xs z d)) here)
        | inr earlier ↦
            let more = rises_order place 0 xs rising k i d (omega arith) lt in
            omega (arith, small, more, e)
      ]

  -- the entry at i has a place from q on, and each before it one below q
  pub parts_here : (xs : List T) (q i : ℕ) (x : T) → IsRising place xs → ((k : ℕ) (d : T) → k < i → place (get_or xs k d) < q) → i < length xs
      → x ≡ get_or xs i x → q ≤ place x → Parts xs q i
  parts_here xs q i x rising before lt is large = (
    λ k d from less. before k d less,
    λ k d from within.
        let e : place (get_or xs i d) ≡ place x = ap place (get_or_default xs i d x lt ∙ sym is) in
        elim (cases_eq i k) [
          | inl here ↦ omega (arith, large, e, ap (λ z. place (get_or xs z d)) here)
          | inr later ↦ let more = rises_order place 0 xs rising i k d (omega arith) within in omega (arith, large, e, more)
        ],
  )

  pub slot_here : (xs : List T) (q i : ℕ) (x : T) → Parts xs q i → i < length xs → x ≡ get_or xs i x → place x ≡ q → IsSlot place xs q (Ok i)
  slot_here xs q i x parts lt is same = (parts, lt, λ d. ap place (get_or_default xs i d x lt ∙ sym is) ∙ same)

  pub slot_other : (xs : List T) (q i : ℕ) (x : T) → Parts xs q i → i < length xs → x ≡ get_or xs i x → place x ≢ q → IsSlot place xs q (Err i)
  slot_other xs q i x parts lt is apart = (parts, omega arith, λ d within same. apart (ap place (is ∙ get_or_default xs i x d lt) ∙ same))

  pub slot_end : (xs : List T) (q i : ℕ) → Parts xs q i → i ≡ length xs → IsSlot place xs q (Err i)
  slot_end xs q i parts end = (parts, omega arith, λ d within same. omega arith)

  pub held_here : (xs : List T) (q i : ℕ) (x : T) → IsRising place xs → IsSlot place xs q (Ok i) → x ≡ get_or xs i x → Some x ≡ at_place place xs q
  held_here xs q i x rising slot is = sym (is_held xs i x rising slot.1 is) ∙ ap (at_place place xs) (ap place is ∙ slot.2 x)

  pub held_none : (xs : List T) (q i : ℕ) → IsRising place xs → IsSlot place xs q (Err i) → None ≡ at_place place xs q
  held_none xs q i rising slot =
      sym (between xs q i rising slot.0 q (λ k d before small same. omega (arith, small, same))
      (λ k d from within large same. elim (cases_eq i k) [
        | inl here ↦ slot.2 d (omega arith) (ap (λ z. place (get_or xs z d)) here ∙ same)
        | inr later ↦
            let more = rises_order place 0 xs rising i k d (omega arith) within in
            let first : q ≤ place (get_or xs i d) = slot.0.1 i d (omega arith) (omega arith) in
            omega (arith, more, first, same)
      ]))

  pub last_found : (xs : List T) (q i : ℕ) (x : T) → IsRising place xs → Parts xs q (i + 1) → i < length xs → x ≡ get_or xs i x → IsLastBelow place xs q (Some x)
  last_found xs q i x rising parts lt is = (
    let below : place (get_or xs i x) < q = parts.0 i x (omega arith) (omega arith) in omega (arith, below, ap place is),
    is_held xs i x rising lt is,
    λ r above small. between xs q (i + 1) rising parts r
        (λ k d before less same. elim (cases_eq k i) [
          | inl here ↦ let e : place x ≡ place (get_or xs i d) = ap place (is ∙ get_or_default xs i x d lt) in omega (arith, e, ap (λ z. place (get_or xs z d)) here, same)
          | inr earlier ↦
              let more = rises_order place 0 xs rising k i d (omega arith) lt in
              let e : place x ≡ place (get_or xs i d) = ap place (is ∙ get_or_default xs i x d lt) in
              omega (arith, more, e, same)
        ])
        (λ k d from within large same. omega (arith, large, same)),
  )

  pub last_none : (xs : List T) (q i : ℕ) → IsRising place xs → Parts xs q i → i ≡ 0 → IsLastBelow place xs q None
  last_none xs q i rising parts none r small =
      between xs q i rising parts r (λ k d before less same. omega arith) (λ k d from within large same. omega (arith, large, same))

  pub first_found : (xs : List T) (q i : ℕ) (x : T) → IsRising place xs → Parts xs q i → i < length xs → x ≡ get_or xs i x → IsFirstFrom place xs q (Some x)
  first_found xs q i x rising parts lt is = (
    let from : q ≤ place (get_or xs i x) = parts.1 i x (omega arith) lt in omega (arith, from, ap place is),
    is_held xs i x rising lt is,
    λ r from small. between xs q i rising parts r (λ k d before less same. omega (arith, less, same))
        (λ k d past within large same. elim (cases_eq i k) [
          | inl here ↦ let e : place x ≡ place (get_or xs i d) = ap place (is ∙ get_or_default xs i x d lt) in omega (arith, e, ap (λ z. place (get_or xs z d)) here, same)
          | inr later ↦
              let more = rises_order place 0 xs rising i k d (omega arith) within in
              let e : place x ≡ place (get_or xs i d) = ap place (is ∙ get_or_default xs i x d lt) in
              omega (arith, more, e, same)
        ]),
  )

  pub first_none : (xs : List T) (q i : ℕ) → IsRising place xs → Parts xs q i → length xs ≤ i → IsFirstFrom place xs q None
  first_none xs q i rising parts far r from =
      between xs q i rising parts r (λ k d before less same. omega (arith, less, same)) (λ k d past within large same. omega arith)
