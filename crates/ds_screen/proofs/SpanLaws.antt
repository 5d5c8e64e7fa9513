-- A field is the run of cells up to the next attribute.
use Rattle.std.proofs.Common.{◌≡◌, ◌≢◌, ℕ, zero, suc, ◌+◌, ◌-◌, ◌<◌, ◌≤◌, ◌&&◌, Bool, true, false, not, List, ◌∷◌, length, map, Some, None, refl, sym, ◌∙◌, ap, arith, inl, inr}
use Rattle.std.specs.List.{range_with_len, filter}
use Rattle.std.proofs.lemmas.Bool.{cond-true, cond-false, cases_lt, false≢true, eq-eqb, ne_eqb}
use Rattle.ds_codec.specs.declared.cell.Cell.{Cell}
use Rattle.ds_screen.specs.Ring.{ring_on, ring_back, ring_distance}
use Rattle.ds_screen.specs.Picture.{cell_at}
use Rattle.ds_screen.specs.Fields.{is_attribute, is_character, attribute_before, attribute_from, is_at, governs, span_of, attributes_from}
use Rattle.ds_screen.proofs.RingLaws.{on_cases, back_cases, on_lt, on_inside, IsFound, search_cases}
use Rattle.ds_screen.proofs.RuledLaws.{distance_on}
use Rattle.ds_screen.proofs.FieldLaws.{before_found, from_found, from_none}

-- ---- the places of attributes
pub attributes_here : (cells : List Cell) (p : ℕ) → p < length cells → is_attribute (cell_at cells p) ≡ true → attributes_from cells p ≡ p ∷ attributes_from cells (p + 1)
attributes_here cells p lt some =
    let more : length cells - p ≡ suc (length cells - (p + 1)) = omega arith in
    ap (λ k. filter (λ q. is_attribute (cell_at cells q)) (range_with_len p k)) more ∙ cond-true (is_attribute (cell_at cells p)) _ _ some

pub attributes_skip : (cells : List Cell) (p : ℕ) → p < length cells → is_attribute (cell_at cells p) ≡ false → attributes_from cells p ≡ attributes_from cells (p + 1)
attributes_skip cells p lt none =
    let more : length cells - p ≡ suc (length cells - (p + 1)) = omega arith in
    ap (λ k. filter (λ q. is_attribute (cell_at cells q)) (range_with_len p k)) more ∙ cond-false (is_attribute (cell_at cells p)) _ _ none

-- ---- ring steps
pub back_on : (n q i e : ℕ) → q < n → i < n → e ≤ i → ring_back n (ring_on n q i) e ≡ ring_on n q (i - e)
back_on n q i e inside few less =
    elim (on_cases n q i) [
      | inl a ↦ elim (back_cases n (ring_on n q i) e) [
        | inl b ↦ elim (on_cases n q (i - e)) [ inl c ↦ omega arith | inr c ↦ omega arith ]
        | inr b ↦ elim (on_cases n q (i - e)) [ inl c ↦ omega arith | inr c ↦ omega arith ]
      ]
      | inr a ↦ elim (back_cases n (ring_on n q i) e) [
        | inl b ↦ elim (on_cases n q (i - e)) [ inl c ↦ omega arith | inr c ↦ omega arith ]
        | inr b ↦ elim (on_cases n q (i - e)) [ inl c ↦ omega arith | inr c ↦ omega arith ]
      ]
    ]

pub on_on : (n q k : ℕ) → q < n → k < n → ring_on n (ring_on n q 1) k ≡ ring_on n q (k + 1)
on_on n q k inside few =
    elim (on_cases n q 1) [
      | inl a ↦ elim (on_cases n (ring_on n q 1) k) [
        | inl b ↦ elim (on_cases n q (k + 1)) [ inl c ↦ omega arith | inr c ↦ omega arith ]
        | inr b ↦ elim (on_cases n q (k + 1)) [ inl c ↦ omega arith | inr c ↦ omega arith ]
      ]
      | inr a ↦ elim (on_cases n (ring_on n q 1) k) [
        | inl b ↦ elim (on_cases n q (k + 1)) [ inl c ↦ omega arith | inr c ↦ omega arith ]
        | inr b ↦ elim (on_cases n q (k + 1)) [ inl c ↦ omega arith | inr c ↦ omega arith ]
      ]
    ]

on_whole : (n q : ℕ) → q < n → ring_on n q n ≡ q
on_whole n q inside = elim (on_cases n q n) [ inl c ↦ omega arith | inr c ↦ omega arith ]

on_none : (n q : ℕ) → q < n → ring_on n q 0 ≡ q
on_none n q inside = elim (on_cases n q 0) [ inl c ↦ omega arith | inr c ↦ omega arith ]

on_apart : (n q j : ℕ) → q < n → 0 < j → j < n → ring_on n q j ≢ q
on_apart n q j inside some few same = elim (on_cases n q j) [ inl c ↦ omega arith | inr c ↦ omega arith ]

-- ---- what the attribute at q governs
-- the next attribute behind q stands k positions behind the place that follows q
pub record IsNext (cells : List Cell) (q k : ℕ) : Type 0 where
  pub inside : k < length cells
  pub characters : (i : ℕ) → 0 < i → i ≤ k → is_attribute (cell_at cells (ring_on (length cells) q i)) ≡ false
  pub stop : is_attribute (cell_at cells (ring_on (length cells) q (k + 1))) ≡ true

pub ruled_by : (cells : List Cell) (q k i : ℕ) → q < length cells → is_attribute (cell_at cells q) ≡ true → IsNext cells q k → 0 < i → i ≤ k
    → governs cells q (ring_on (length cells) q i) ≡ true
ruled_by cells q k i inside there next some few =
    let n : ℕ = length cells in
    let p : ℕ = ring_on n q i in
    let lt : i < n = omega (arith, next.inside) in
    let home : q ≡ ring_back n p i = sym (back_on n q i i inside lt (omega arith) ∙ ap (ring_on n q) (omega arith) ∙ on_none n q inside) in
    let found : Some q ≡ attribute_before cells p =
    before_found cells n p i q refl lt home
    (λ e below. ap (λ z. is_attribute (cell_at cells z)) (back_on n q i e inside lt (omega arith)) ∙ next.characters (i - e) (omega arith) (omega arith)) there in
    ap (λ t. not t && is_at (attribute_before cells p) q) (next.characters i some few)
    ∙ ap (λ o. is_at o q) (sym found) ∙ eq-eqb q q refl

both_false : (t u : Bool) → u ≡ false → (t && u) ≡ false
both_false true u e = e
both_false false u e = refl

pub not_ruled_by : (cells : List Cell) (q k i : ℕ) → q < length cells → IsNext cells q k → k < i → i < length cells
    → governs cells q (ring_on (length cells) q i) ≡ false
not_ruled_by cells q k i inside next far lt =
    let n : ℕ = length cells in
    let p : ℕ = ring_on n q i in
    let there : is_attribute (cell_at cells (ring_back n p (i - (k + 1)))) ≡ true =
    ap (λ z. is_attribute (cell_at cells z)) (back_on n q i (i - (k + 1)) inside lt (omega arith) ∙ ap (ring_on n q) (omega arith)) ∙ next.stop in
    elim (search_cases n (λ e. is_attribute (cell_at cells (ring_back n p e)))) [
      | inl found ↦
          elim (cases_lt (i - (k + 1)) found.0) [
            | inl late ↦ absurd (false≢true (sym (found.1.misses (i - (k + 1)) late) ∙ there))
            | inr early ↦
                let r : ℕ = ring_back n p found.0 in
                let is : r ≡ ring_on n q (i - found.0) = back_on n q i found.0 inside lt (omega arith) in
                let apart : r ≢ q = λ same. on_apart n q (i - found.0) inside (omega arith) (omega arith) (sym is ∙ same) in
                both_false (is_character (cell_at cells p)) (is_at (attribute_before cells p) q)
                (ap (λ o. is_at o q) (sym (before_found cells n p found.0 r refl found.1.inside refl found.1.misses found.1.hit)) ∙ ne_eqb r q apart)
          ]
      | inr none ↦ absurd (false≢true (sym (none (i - (k + 1)) (omega arith)) ∙ there))
    ]

count_first : (f : ℕ → Bool) (g : ℕ → ℕ) (m a k : ℕ) → k ≤ m → ((i : ℕ) → a ≤ i → i < a + k → f (g i) ≡ true)
    → ((i : ℕ) → a + k ≤ i → i < a + m → f (g i) ≡ false) → length (filter f (map g (range_with_len a m))) ≡ k
count_first f g zero a k few first others = omega arith
count_first f g (suc m) a zero few first others =
    ap length (cond-false (f (g a)) _ _ (others a (omega arith) (omega arith)))
    ∙ count_first f g m (a + 1) zero (omega arith) (λ i from below. absurd (omega arith)) (λ i from below. others i (omega arith) (omega arith))
count_first f g (suc m) a (suc k) few first others =
    ap length (cond-true (f (g a)) _ _ (first a (omega arith) (omega arith)))
    ∙ ap suc (count_first f g m (a + 1) k (omega arith) (λ i from below. first i (omega arith) (omega arith)) (λ i from below. others i (omega arith) (omega arith)))

pub length-span_of : (cells : List Cell) (q k : ℕ) → q < length cells → is_attribute (cell_at cells q) ≡ true → IsNext cells q k → length (span_of cells q) ≡ k
unfolding span_of
length-span_of cells q k inside there next =
    count_first (governs cells q) (ring_on (length cells) q) (length cells - 1) 1 k (omega (arith, next.inside))
    (λ i from below. ruled_by cells q k i inside there next (omega arith) (omega arith))
    (λ i from below. not_ruled_by cells q k i inside next (omega arith) (omega arith))

-- the next attribute, as a search on from the place behind q finds it
pub next_from : (cells : List Cell) (q k : ℕ) → q < length cells → IsFound (length cells) (λ d. is_attribute (cell_at cells (ring_on (length cells) (ring_on (length cells) q 1) d))) k
    → IsNext cells q k
next_from cells q k inside found =
    let n : ℕ = length cells in
    record {
      inside = found.inside;
      characters = λ i some few.
          let back : i - 1 + 1 ≡ i = omega arith in
          ap (λ z. is_attribute (cell_at cells z)) (ap (ring_on n q) (sym back) ∙ sym (on_on n q (i - 1) inside (omega (arith, found.inside)))) ∙ found.misses (i - 1) (omega arith);
      stop = ap (λ z. is_attribute (cell_at cells z)) (sym (on_on n q k inside found.inside)) ∙ found.hit;
    }

same_stop : (s t : ℕ) → Some s ≡ Some t → s ≡ t
same_stop s t e = cc

pub span_to : (cells : List Cell) (q m place stop steps : ℕ) → q < length cells → is_attribute (cell_at cells q) ≡ true → m ≡ length cells → place ≡ ring_on m q 1
    → Some stop ≡ attribute_from cells place → steps ≡ ring_distance m place stop → steps ≡ length (span_of cells q)
span_to cells q m place stop steps inside there len on nearest counts =
    let n : ℕ = length cells in
    let behind : place ≡ ring_on n q 1 = on ∙ ap (λ z. ring_on z q 1) len in
    let near : Some stop ≡ attribute_from cells (ring_on n q 1) = nearest ∙ ap (attribute_from cells) behind in
    let count : steps ≡ ring_distance n (ring_on n q 1) stop = counts ∙ ap (λ z. ring_distance z place stop) len ∙ ap (λ z. ring_distance n z stop) behind in
    elim (search_cases n (λ d. is_attribute (cell_at cells (ring_on n (ring_on n q 1) d)))) [
      | inl found ↦
          let is : stop ≡ ring_on n (ring_on n q 1) found.0 =
          same_stop _ _ (near ∙ sym (from_found cells n (ring_on n q 1) found.0 (ring_on n (ring_on n q 1) found.0) refl found.1.inside refl found.1.misses found.1.hit)) in
          count ∙ ap (ring_distance n (ring_on n q 1)) is
          ∙ distance_on n (ring_on n q 1) found.0 (on_lt n q 1 inside (omega arith)) found.1.inside
          ∙ sym (length-span_of cells q found.0 inside there (next_from cells q found.0 inside found.1))
      | inr none ↦
          absurd (false≢true (sym (none (n - 1) (omega arith)) ∙ ap (λ z. is_attribute (cell_at cells z)) (round n q inside) ∙ there))
    ]
  where
    round : (n q : ℕ) → q < n → ring_on n (ring_on n q 1) (n - 1) ≡ q
    round n q inside = on_on n q (n - 1) inside (omega arith) ∙ ap (ring_on n q) (omega arith) ∙ on_whole n q inside

pub never_none : (cells : List Cell) (q m place : ℕ) → q < length cells → is_attribute (cell_at cells q) ≡ true → m ≡ length cells → place ≡ ring_on m q 1
    → None ≡ attribute_from cells place → ⊥
never_none cells q m place inside there len on nearest =
    let n : ℕ = length cells in
    let behind : place ≡ ring_on n q 1 = on ∙ ap (λ z. ring_on z q 1) len in
    let near : None ≡ attribute_from cells (ring_on n q 1) = nearest ∙ ap (attribute_from cells) behind in
    elim (search_cases n (λ d. is_attribute (cell_at cells (ring_on n (ring_on n q 1) d)))) [
      | inl found ↦
          let both = near ∙ sym (from_found cells n (ring_on n q 1) found.0 (ring_on n (ring_on n q 1) found.0) refl found.1.inside refl found.1.misses found.1.hit) in
          cc
      | inr none ↦
          absurd (false≢true (sym (none (n - 1) (omega arith))
          ∙ ap (λ z. is_attribute (cell_at cells z)) (on_on n q (n - 1) inside (omega arith) ∙ ap (ring_on n q) (omega arith) ∙ on_whole n q inside) ∙ there))
    ]

-- ---- the next attribute round the buffer, and the next one up to the end
pub next_ahead : (cells : List Cell) (from at : ℕ) → from < length cells → Some at ≡ attribute_from cells from → from ≤ at
    → (at < length cells) × ((q : ℕ) → from ≤ q → q < at → is_attribute (cell_at cells q) ≡ false) × (is_attribute (cell_at cells at) ≡ true)
next_ahead cells from at inside nearest ahead =
    let n : ℕ = length cells in
    elim (search_cases n (λ d. is_attribute (cell_at cells (ring_on n from d)))) [
      | inl found ↦
          let d : ℕ = found.0 in
          let same : at ≡ ring_on n from d = same_stop _ _ (nearest ∙ sym (from_found cells n from d (ring_on n from d) refl found.1.inside refl found.1.misses found.1.hit)) in
          elim (on_cases n from d) [
            | inl a ↦ (
              omega (arith, same, a.1, a.0),
              λ q low high.
                  let there : ring_on n from (q - from) ≡ q = on_inside n from (q - from) (omega (arith, same, a.1, a.0)) ∙ omega arith in
                  ap (λ z. is_attribute (cell_at cells z)) (sym there) ∙ found.1.misses (q - from) (omega (arith, same, a.1)),
              ap (λ z. is_attribute (cell_at cells z)) same ∙ found.1.hit,
            )
            | inr a ↦ absurd (omega (arith, same, a.1, found.1.inside))
          ]
      | inr none ↦ let e = nearest ∙ sym (from_none cells n from refl none) in absurd cc
    ]

pub next_behind : (cells : List Cell) (from at : ℕ) → from < length cells → Some at ≡ attribute_from cells from → at < from
    → (q : ℕ) → from ≤ q → q < length cells → is_attribute (cell_at cells q) ≡ false
next_behind cells from at inside nearest round q low lt =
    let n : ℕ = length cells in
    elim (search_cases n (λ d. is_attribute (cell_at cells (ring_on n from d)))) [
      | inl found ↦
          let d : ℕ = found.0 in
          let same : at ≡ ring_on n from d = same_stop _ _ (nearest ∙ sym (from_found cells n from d (ring_on n from d) refl found.1.inside refl found.1.misses found.1.hit)) in
          let there : ring_on n from (q - from) ≡ q = on_inside n from (q - from) (omega arith) ∙ omega arith in
          elim (on_cases n from d) [
            | inl a ↦ absurd (omega (arith, same, a.1))
            | inr a ↦ ap (λ z. is_attribute (cell_at cells z)) (sym there) ∙ found.1.misses (q - from) (omega (arith, a.0))
          ]
      | inr none ↦
          let there : ring_on n from (q - from) ≡ q = on_inside n from (q - from) (omega arith) ∙ omega arith in
          ap (λ z. is_attribute (cell_at cells z)) (sym there) ∙ none (q - from) (omega arith)
    ]

pub next_nowhere : (cells : List Cell) (from : ℕ) → None ≡ attribute_from cells from → (q : ℕ) → from ≤ q → q < length cells → is_attribute (cell_at cells q) ≡ false
next_nowhere cells from nearest q low lt =
    let n : ℕ = length cells in
    elim (search_cases n (λ d. is_attribute (cell_at cells (ring_on n from d)))) [
      | inl found ↦ let e = nearest ∙ sym (from_found cells n from found.0 (ring_on n from found.0) refl found.1.inside refl found.1.misses found.1.hit) in absurd cc
      | inr none ↦
          let there : ring_on n from (q - from) ≡ q = on_inside n from (q - from) (omega arith) ∙ omega arith in
          ap (λ z. is_attribute (cell_at cells z)) (sym there) ∙ none (q - from) (omega arith)
    ]
