-- What is found of one field, behind what was found of those before it.
use Rattle.std.proofs.Common.{◌≡◌, ℕ, ◌<◌, List, zero, suc, ◌≤◌, ◌+◌, ◌-◌, ◌++◌, length, get_or, Option, Some, None, refl, sym, ◌∙◌, ap, cond, true, false, subst, append_assoc, arith}
use Rattle.std.specs.Prelude.{slice_get}
use Rattle.std.proofs.lemmas.Option.{slice_get-get_or}
use Rattle.bms_map.specs.Maps.{Shown}
use Rattle.bms_map.specs.declared.overlap.Overlap.{Overlap}
use Rattle.std.specs.Prelude.{nat_le}
use Rattle.std.specs.List.{flat_map, range_with_len}
use Rattle.std.proofs.lemmas.Bool.{leb-true, leb-false}
use Rattle.bms_map.specs.Overlaps.{cell_of, end_in, end_of, nearest, overlapping, past_end, overlaps_at, IsNearest, OverlapsAreNearest, NearestIsOne}
use Rattle.bms_map.proofs.EntryLaws.{range_next}

pub one_field : (old mid : List Overlap) (fields : List Shown) (last index : ℕ) (field : Shown) (other : Option ℕ) (end : ℕ) → index < length fields → field ≡ get_or fields index field
    → other ≡ nearest fields field.cell index → end ≡ end_of field → mid ≡ old ++ overlapping index other
    → mid ++ past_end index last end ≡ old ++ overlaps_at fields last index
one_field old mid fields last index field other end lt is other_is end_is mid_is =
    let here : slice_get fields index ≡ Some field = slice_get-get_or fields index field lt ∙ ap Some (sym is) in
    let near : other ≡ nearest fields (cell_of (slice_get fields index)) index = other_is ∙ ap (λ o. nearest fields (cell_of o) index) (sym here) in
    let far : end ≡ end_in (slice_get fields index) = end_is ∙ ap end_in (sym here) in
    ap (λ m. m ++ past_end index last end) mid_is ∙ append_assoc old (overlapping index other) (past_end index last end)
    ∙ ap (λ o. old ++ (overlapping index o ++ past_end index last end)) near
    ∙ ap (λ e. old ++ (overlapping index (nearest fields (cell_of (slice_get fields index)) index) ++ past_end index last e)) far

pub found_next : (f : ℕ → List Overlap) (now next due : List Overlap) (k n : ℕ) → k < n → next ≡ now ++ f k → now ++ flat_map f (range_with_len k (n - k)) ≡ due
    → next ++ flat_map f (range_with_len (k + 1) (n - (k + 1))) ≡ due
found_next f now next due k n lt more same =
    ap (λ (l : List Overlap). l ++ flat_map f (range_with_len (k + 1) (n - (k + 1)))) more
    ∙ append_assoc now (f k) (flat_map f (range_with_len (k + 1) (n - (k + 1))))
    ∙ sym (ap (λ (l : List ℕ). now ++ flat_map f l) (range_next k n lt)) ∙ same

at_or_below : (P : ℕ → Type 0) (count : ℕ) → P count → ((i : ℕ) → i < count → P i) → (i : ℕ) → i < suc count → P i
at_or_below P count here below i lt = elim (nat_le count i) as (λ b. nat_le count i ≡ b → P i) [
  | true ↦ λ e. subst P (same i (leb-true count i e) lt) here
  | false ↦ λ e. below i (leb-false count i e)
] refl
  where
    same : (i : ℕ) → count ≤ i → i < suc count → count ≡ i
    same i at_least lt = omega (arith, at_least, lt)

more_nearest : (fields : List Shown) (cell count : ℕ) (found : Option ℕ) → end_in (slice_get fields count) < cell → IsNearest fields cell count found → IsNearest fields cell (suc count) found
more_nearest fields cell count None short is = at_or_below (λ i. end_in (slice_get fields i) < cell) count short is
more_nearest fields cell count (Some other) short is =
    (omega (arith, is.0), is.1, λ i more lt. at_or_below (λ j. other < j → end_in (slice_get fields j) < cell) count (λ _. short) (λ j below behind. is.2 j behind below) i lt more)

pub nearest_is : (fields : List Shown) (cell count : ℕ) → IsNearest fields cell count (nearest fields cell count)
nearest_is fields cell zero = λ i lt. absurd (omega (arith, lt))
nearest_is fields cell (suc count) = elim (nat_le cell (end_in (slice_get fields count))) as
    (λ b. nat_le cell (end_in (slice_get fields count)) ≡ b → IsNearest fields cell (suc count) (cond b (Some count) (nearest fields cell count))) [
      | true ↦ λ e. (omega arith, leb-true cell (end_in (slice_get fields count)) e, λ i more lt. absurd (omega (arith, more, lt)))
      | false ↦ λ e. more_nearest fields cell count (nearest fields cell count) (leb-false cell (end_in (slice_get fields count)) e) (nearest_is fields cell count)
    ] refl

pub overlaps_are_nearest : OverlapsAreNearest
overlaps_are_nearest map = (λ i. nearest map.fields (cell_of (slice_get map.fields i)) i, λ i lt. nearest_is map.fields (cell_of (slice_get map.fields i)) i, refl)

pub nearest_is_one : NearestIsOne
nearest_is_one fields cell count None None one other = refl
nearest_is_one fields cell count None (Some b) one other = absurd (omega (arith, one b other.0, other.1))
nearest_is_one fields cell count (Some a) None one other = absurd (omega (arith, other a one.0, one.1))
nearest_is_one fields cell count (Some a) (Some b) one other = elim (nat_le a b) as (λ t. nat_le a b ≡ t → Some a ≡ Some b) [
  | true ↦ λ e. elim (nat_le b a) as (λ t. nat_le b a ≡ t → Some a ≡ Some b) [
    | true ↦ λ f. ap Some (both (leb-true a b e) (leb-true b a f))
    | false ↦ λ f. absurd (omega (arith, one.2 b (leb-false b a f) other.0, other.1))
  ] refl
  | false ↦ λ e. absurd (omega (arith, other.2 a (leb-false a b e) one.0, one.1))
] refl
  where
    both : a ≤ b → b ≤ a → a ≡ b
    both x y = omega (arith, x, y)
