-- A field is the run of cells from the place behind its attribute on.
use Rattle.std.proofs.Common.{◌≡◌, ℕ, zero, suc, ◌+◌, ◌-◌, ◌<◌, ◌≤◌, Bool, true, false, List, ◌∷◌, length, map, refl, sym, ◌∙◌, ap, arith, inl, inr}
use Rattle.std.specs.List.{range_with_len, filter}
use Rattle.std.proofs.lemmas.Bool.{cond-true, cond-false, false≢true}
use Rattle.ds_codec.specs.declared.cell.Cell.{Cell}
use Rattle.ds_screen.specs.Ring.{ring_on}
use Rattle.ds_screen.specs.Picture.{cell_at}
use Rattle.ds_screen.specs.Fields.{is_attribute, governs, span_of}
use Rattle.ds_screen.proofs.RingLaws.{on_cases, search_cases}
use Rattle.ds_screen.proofs.SpanLaws.{IsNext, on_on, ruled_by, not_ruled_by, next_from, length-span_of}
use Rattle.ds_inbound.specs.Sending.{places_on}

on_whole : (n q : ℕ) → q < n → ring_on n q n ≡ q
on_whole n q inside = elim (on_cases n q n) [ inl c ↦ omega arith | inr c ↦ omega arith ]

-- what passes is a front of the places
first_run : (f : ℕ → Bool) (g : ℕ → ℕ) (m a k : ℕ) → k ≤ m → ((i : ℕ) → a ≤ i → i < a + k → f (g i) ≡ true)
    → ((i : ℕ) → a + k ≤ i → i < a + m → f (g i) ≡ false) → filter f (map g (range_with_len a m)) ≡ map g (range_with_len a k)
first_run f g zero a zero few first others = refl
first_run f g zero a (suc k) few first others = absurd (omega arith)
first_run f g (suc m) a zero few first others =
    cond-false (f (g a)) _ _ (others a (omega arith) (omega arith))
    ∙ first_run f g m (a + 1) zero (omega arith) (λ i from below. absurd (omega arith)) (λ i from below. others i (omega arith) (omega arith))
first_run f g (suc m) a (suc k) few first others =
    cond-true (f (g a)) _ _ (first a (omega arith) (omega arith))
    ∙ ap (λ rest. g a ∷ rest) (first_run f g m (a + 1) k (omega arith) (λ i from below. first i (omega arith) (omega arith)) (λ i from below. others i (omega arith) (omega arith)))

-- steps from q are steps from the place behind it, one less
shifted : (n q : ℕ) (k a : ℕ) → q < n → a + k < n → map (ring_on n q) (range_with_len (a + 1) k) ≡ map (ring_on n (ring_on n q 1)) (range_with_len a k)
shifted n q zero a inside few = refl
shifted n q (suc k) a inside few =
    ap (λ x. x ∷ map (ring_on n q) (range_with_len (a + 1 + 1) k)) (sym (on_on n q a inside (omega arith)))
    ∙ ap (λ rest. ring_on n (ring_on n q 1) a ∷ rest) (shifted n q k (a + 1) inside (omega arith))

run_to : (cells : List Cell) (q k : ℕ) → q < length cells → is_attribute (cell_at cells q) ≡ true → IsNext cells q k
    → span_of cells q ≡ places_on (length cells) (ring_on (length cells) q 1) (length (span_of cells q))
unfolding span_of
run_to cells q k inside there next =
    let n : ℕ = length cells in
    let run : span_of cells q ≡ map (ring_on n q) (range_with_len 1 k) =
    first_run (governs cells q) (ring_on n q) (n - 1) 1 k (omega (arith, next.inside))
    (λ i from below. ruled_by cells q k i inside there next (omega arith) (omega arith))
    (λ i from below. not_ruled_by cells q k i inside next (omega arith) (omega arith)) in
    let on : map (ring_on n q) (range_with_len 1 k) ≡ places_on n (ring_on n q 1) k = shifted n q k 0 inside (omega (arith, next.inside)) in
    run ∙ on ∙ ap (places_on n (ring_on n q 1)) (sym (length-span_of cells q k inside there next))

-- the positions that an attribute governs are so many places, from the one behind it on
pub span_is_run : (cells : List Cell) (q : ℕ) → q < length cells → is_attribute (cell_at cells q) ≡ true
    → span_of cells q ≡ places_on (length cells) (ring_on (length cells) q 1) (length (span_of cells q))
span_is_run cells q inside there =
    let n : ℕ = length cells in
    elim (search_cases n (λ d. is_attribute (cell_at cells (ring_on n (ring_on n q 1) d)))) [
      | inl found ↦ run_to cells q found.0 inside there (next_from cells q found.0 inside found.1)
      | inr none ↦
          absurd (false≢true (sym (none (n - 1) (omega arith))
          ∙ ap (λ z. is_attribute (cell_at cells z)) (on_on n q (n - 1) inside (omega arith) ∙ ap (ring_on n q) (omega arith) ∙ on_whole n q inside) ∙ there))
    ]

-- an attribute governs fewer cells than there are
few_to : (cells : List Cell) (q k : ℕ) → q < length cells → is_attribute (cell_at cells q) ≡ true → IsNext cells q k → length (span_of cells q) < length cells
few_to cells q k inside there next = omega (arith, length-span_of cells q k inside there next, next.inside)

pub span_short : (cells : List Cell) (q : ℕ) → q < length cells → is_attribute (cell_at cells q) ≡ true → length (span_of cells q) < length cells
span_short cells q inside there =
    let n : ℕ = length cells in
    elim (search_cases n (λ d. is_attribute (cell_at cells (ring_on n (ring_on n q 1) d)))) [
      | inl found ↦ few_to cells q found.0 inside there (next_from cells q found.0 inside found.1)
      | inr none ↦
          absurd (false≢true (sym (none (n - 1) (omega arith))
          ∙ ap (λ z. is_attribute (cell_at cells z)) (on_on n q (n - 1) inside (omega arith) ∙ ap (ring_on n q) (omega arith) ∙ on_whole n q inside) ∙ there))
    ]

-- ---- the whole buffer
pub whole_run : (n k a : ℕ) → a + k ≤ n → map (ring_on n 0) (range_with_len a k) ≡ range_with_len a k
whole_run n zero a few = refl
whole_run n (suc k) a few =
    ap (λ x. x ∷ map (ring_on n 0) (range_with_len (a + 1) k)) (elim (on_cases n 0 a) [ inl c ↦ omega arith | inr c ↦ omega arith ])
    ∙ ap (λ rest. a ∷ rest) (whole_run n k (a + 1) (omega arith))
