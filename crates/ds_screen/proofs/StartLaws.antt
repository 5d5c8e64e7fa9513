-- Where fields start, by the unprotected attributes that a character follows.
use Rattle.std.proofs.Common.{◌≡◌, ℕ, zero, suc, ◌+◌, ◌-◌, ◌<◌, ◌≤◌, Bool, true, false, not, ◌&&◌, List, length, Some, None, refl, sym, ◌∙◌, ap, arith, inl, inr}
use Rattle.std.specs.Option.{option_map, unwrap_or}
use Rattle.std.proofs.lemmas.Bool.{cases_lt, false≢true}
use Rattle.ds_codec.specs.declared.cell.Cell.{Cell}
use Rattle.ds_codec.specs.declared.cell.Cell.TheVariants.{Field, Char}
use Rattle.ds_screen.specs.Ring.{ring_on, ring_back}
use Rattle.ds_screen.specs.Picture.{cell_at}
use Rattle.ds_screen.specs.Fields.{is_attribute, is_character, ruling_bits, ruling_after, is_open_under, is_open, first_open}
use Rattle.ds_screen.specs.Orders.{is_unprotected_attribute}
use Rattle.ds_screen.specs.Starts.{is_field_start, start_ahead}
use Rattle.ds_screen.specs.Listed.{is_opening, IsFirstFree, IsFirstOpening}
use Rattle.ds_screen.proofs.RingLaws.{on_cases, on-zero, on_lt, on_more, on_inside, least_at, least_none, search_cases}
use Rattle.ds_screen.proofs.RuledLaws.{place_before}
use Rattle.ds_screen.proofs.FieldLaws.{ruling_more}
use Rattle.ds_screen.proofs.RulingLaws.{open_at, open_nowhere}

-- ---- a field starts behind an opening
pub start_opens : (cells : List Cell) (q : ℕ) → q < length cells → is_field_start cells (ring_on (length cells) q 1) ≡ is_opening cells q
start_opens cells q inside =
    let n : ℕ = length cells in
    ap (λ z. is_character (cell_at cells (ring_on n q 1)) && is_unprotected_attribute (cell_at cells z)) (place_before n n q (ring_on n q 1) inside refl refl)

pub start_on : (cells : List Cell) (p d : ℕ) → p < length cells → d < length cells → is_field_start cells (ring_on (length cells) p (d + 1)) ≡ is_opening cells (ring_on (length cells) p d)
start_on cells p d inside few =
    let n : ℕ = length cells in
    ap (is_field_start cells) (sym (on_more n p d inside few)) ∙ start_opens cells (ring_on n p d) (on_lt n p d inside (omega arith))

pub start_at : (cells : List Cell) (p k : ℕ) → k < length cells → ((d : ℕ) → d < k → is_field_start cells (ring_on (length cells) p (d + 1)) ≡ false)
    → is_field_start cells (ring_on (length cells) p (k + 1)) ≡ true → start_ahead cells p ≡ ring_on (length cells) p (k + 1)
unfolding start_ahead
start_at cells p k few misses hit =
    let n : ℕ = length cells in
    ap (λ o. unwrap_or (option_map (λ d. ring_on n p (d + 1)) o) 0) (least_at n k (λ d. is_field_start cells (ring_on n p (d + 1))) few misses hit)

pub start_nowhere : (cells : List Cell) (p : ℕ) → ((d : ℕ) → d < length cells → is_field_start cells (ring_on (length cells) p (d + 1)) ≡ false) → start_ahead cells p ≡ 0
unfolding start_ahead
start_nowhere cells p misses =
    let n : ℕ = length cells in
    ap (λ o. unwrap_or (option_map (λ d. ring_on n p (d + 1)) o) 0) (least_none n (λ d. is_field_start cells (ring_on n p (d + 1))) misses)

pub start_test : (cells : List Cell) (n at next : ℕ) (before cell : Cell) (test : Bool) → at < length cells → n ≡ length cells → next ≡ ring_on n at 1 → before ≡ cell_at cells at
    → cell ≡ cell_at cells next → test ≡ (is_character cell && is_unprotected_attribute before) → test ≡ is_field_start cells next
start_test cells n at next before cell test inside len on was here is =
    is ∙ ap (λ c. is_character c && is_unprotected_attribute before) here ∙ ap (λ c. is_character (cell_at cells next) && is_unprotected_attribute c) was
    ∙ ap (λ q. is_character (cell_at cells next) && is_unprotected_attribute (cell_at cells q)) (sym (place_before (length cells) n at next inside len on))

-- ---- the walk over openings
pub start_here : (cells : List Cell) (p q : ℕ) → p < length cells → IsFirstOpening cells p (Some q) → ring_on (length cells) q 1 ≡ start_ahead cells p
start_here cells p q inside found =
    let n : ℕ = length cells in
    let d : ℕ = q - p in
    let sum : p + d ≡ q = omega (arith, found.0) in
    let there : ring_on n p d ≡ q = on_inside n p d (omega (arith, found.1, sum)) ∙ sum in
    ap (λ z. ring_on n z 1) (sym there) ∙ on_more n p d inside (omega (arith, found.1))
    ∙ sym (start_at cells p d (omega (arith, found.1))
    (λ e less. start_on cells p e inside (omega (arith, found.1, less))
    ∙ ap (is_opening cells) (on_inside n p e (omega (arith, found.1, less, sum))) ∙ found.3 (p + e) (omega arith) (omega (arith, less, sum)))
    (start_on cells p d inside (omega (arith, found.1)) ∙ ap (is_opening cells) there ∙ found.2))

pub start_round : (cells : List Cell) (p : ℕ) (q : ℕ) → p < length cells → IsFirstOpening cells p None → IsFirstOpening cells 0 (Some q) → ring_on (length cells) q 1 ≡ start_ahead cells p
start_round cells p q inside none found =
    let n : ℕ = length cells in
    let before : q < p = elim (cases_lt q p) [
      | inl less ↦ less
      | inr more ↦ absurd (false≢true (sym (none q more found.1) ∙ found.2))
    ] in
    let d : ℕ = n - p + q in
    let there : ring_on n p d ≡ q = elim (on_cases n p d) [ inl a ↦ absurd (omega (arith, a.0)) | inr a ↦ omega (arith, a.1, inside) ] in
    ap (λ z. ring_on n z 1) (sym there) ∙ on_more n p d inside (omega (arith, before, inside))
    ∙ sym (start_at cells p d (omega (arith, before, inside))
    (λ e less. start_on cells p e inside (omega (arith, before, inside, less))
    ∙ (elim (on_cases n p e) [
      | inl a ↦ ap (is_opening cells) a.1 ∙ none (p + e) (omega arith) a.0
      | inr a ↦ ap (is_opening cells) a.1 ∙ found.3 (p + e - n) (omega arith) (omega (arith, less, a.0))
    ]))
    (start_on cells p d inside (omega (arith, before, inside)) ∙ ap (is_opening cells) there ∙ found.2))

pub start_never : (cells : List Cell) (p : ℕ) → p < length cells → IsFirstOpening cells 0 None → 0 ≡ start_ahead cells p
start_never cells p inside none =
    sym (start_nowhere cells p (λ d few. start_on cells p d inside few ∙ none (ring_on (length cells) p d) (omega arith) (on_lt (length cells) p d inside (omega arith))))

-- ---- one opening after the other, by the list of the unprotected attributes
abbrev pub NoneOpening : List Cell → ℕ → ℕ → Type 0
NoneOpening cells from at = (r : ℕ) → from ≤ r → r < at → is_opening cells r ≡ false

not_free : (cells : List Cell) (r : ℕ) → is_unprotected_attribute (cell_at cells r) ≡ false → is_opening cells r ≡ false
not_free cells r shut = ap (λ t. is_character (cell_at cells (ring_on (length cells) r 1)) && t) shut ∙ and_false (is_character (cell_at cells (ring_on (length cells) r 1)))
  where
    and_false : (t : Bool) → (t && false) ≡ false
    and_false true = refl
    and_false false = refl

pub opening_found : (cells : List Cell) (from at q : ℕ) → from ≤ at → IsFirstFree cells at (Some q) → NoneOpening cells from at
    → is_attribute (cell_at cells (ring_on (length cells) q 1)) ≡ false → IsFirstOpening cells from (Some q)
opening_found cells from at q order found misses next = (
  omega (arith, order, found.0),
  found.1,
  ap (λ t. not t && is_unprotected_attribute (cell_at cells q)) next ∙ found.2,
  λ r low below. elim (cases_lt r at) [
    | inl early ↦ misses r low early
    | inr late ↦ not_free cells r (found.3 r late below)
  ],
)

pub opening_more : (cells : List Cell) (from at q : ℕ) → IsFirstFree cells at (Some q) → NoneOpening cells from at
    → is_attribute (cell_at cells (ring_on (length cells) q 1)) ≡ true → NoneOpening cells from (q + 1)
opening_more cells from at q found misses next r low below =
    elim (cases_lt r at) [
      | inl early ↦ misses r low early
      | inr late ↦ elim (cases_lt r q) [
        | inl less ↦ not_free cells r (found.3 r late less)
        | inr more ↦
            let same : r ≡ q = omega (arith, more, below) in
            ap (is_opening cells) same ∙ ap (λ t. not t && is_unprotected_attribute (cell_at cells q)) next
      ]
    ]

pub opening_none : (cells : List Cell) (from at : ℕ) → IsFirstFree cells at None → NoneOpening cells from at → IsFirstOpening cells from None
opening_none cells from at none misses r low lt =
    elim (cases_lt r at) [
      | inl early ↦ misses r low early
      | inr late ↦ not_free cells r (none r late lt)
    ]

-- ---- an open position is behind another one, or a field starts there
opens_later : (before : ℕ) (c d : Cell) → is_open_under (ruling_after before d) d ≡ false → (is_character c && is_unprotected_attribute d) ≡ false
    → is_open_under (ruling_after (ruling_after before d) c) c ≡ false
opens_later before (Field bits) d shut none = refl
opens_later before (Char c) (Field bits) shut none = none
opens_later before (Char c) (Char x) shut none = shut

later_shut : (cells : List Cell) (q : ℕ) → q < length cells → is_open cells q ≡ false → is_field_start cells (ring_on (length cells) q 1) ≡ false
    → is_open cells (ring_on (length cells) q 1) ≡ false
later_shut cells q inside shut none =
    let n : ℕ = length cells in
    let p : ℕ = ring_on n q 1 in
    let back : ring_back n p 1 ≡ q = place_before n n q p inside refl refl in
    let rules : ruling_bits cells p ≡ ruling_after (ruling_after (ruling_bits cells (ring_back n q 1)) (cell_at cells q)) (cell_at cells p) =
    ruling_more cells p (on_lt n q 1 inside (omega arith)) ∙ ap (λ z. ruling_after (ruling_bits cells z) (cell_at cells p)) back
    ∙ ap (λ r. ruling_after r (cell_at cells p)) (ruling_more cells q inside) in
    ap (λ r. is_open_under r (cell_at cells p)) rules
    ∙ opens_later (ruling_bits cells (ring_back n q 1)) (cell_at cells p) (cell_at cells q)
    (ap (λ r. is_open_under r (cell_at cells q)) (sym (ruling_more cells q inside)) ∙ shut)
    (ap (λ z. is_character (cell_at cells p) && is_unprotected_attribute (cell_at cells z)) (sym back) ∙ none)

opens_here : (before : ℕ) (c d : Cell) → (is_character c && is_unprotected_attribute d) ≡ true → is_open_under (ruling_after (ruling_after before d) c) c ≡ true
opens_here before (Field bits) d starts = starts
opens_here before (Char c) (Field bits) starts = starts
opens_here before (Char c) (Char x) starts = absurd cc

start_open : (cells : List Cell) (q : ℕ) → q < length cells → is_field_start cells (ring_on (length cells) q 1) ≡ true → is_open cells (ring_on (length cells) q 1) ≡ true
start_open cells q inside starts =
    let n : ℕ = length cells in
    let p : ℕ = ring_on n q 1 in
    let back : ring_back n p 1 ≡ q = place_before n n q p inside refl refl in
    let rules : ruling_bits cells p ≡ ruling_after (ruling_after (ruling_bits cells (ring_back n q 1)) (cell_at cells q)) (cell_at cells p) =
    ruling_more cells p (on_lt n q 1 inside (omega arith)) ∙ ap (λ z. ruling_after (ruling_bits cells z) (cell_at cells p)) back
    ∙ ap (λ r. ruling_after r (cell_at cells p)) (ruling_more cells q inside) in
    ap (λ r. is_open_under r (cell_at cells p)) rules
    ∙ opens_here (ruling_bits cells (ring_back n q 1)) (cell_at cells p) (cell_at cells q)
    (ap (λ z. is_character (cell_at cells p) && is_unprotected_attribute (cell_at cells z)) (sym back) ∙ starts)

none_open : (cells : List Cell) (p k : ℕ) → p < length cells → k ≤ length cells → is_open cells p ≡ false
    → ((d : ℕ) → d < k → is_field_start cells (ring_on (length cells) p (d + 1)) ≡ false) → (d : ℕ) → d ≤ k → is_open cells (ring_on (length cells) p d) ≡ false
none_open cells p k inside few shut misses zero within = ap (is_open cells) (on-zero (length cells) p inside) ∙ shut
none_open cells p k inside few shut misses (suc d) within =
    let n : ℕ = length cells in
    let last : suc d ≡ d + 1 = omega arith in
    let step : ring_on n (ring_on n p d) 1 ≡ ring_on n p (d + 1) = on_more n p d inside (omega arith) in
    ap (λ k. is_open cells (ring_on n p k)) last ∙ ap (is_open cells) (sym step)
    ∙ later_shut cells (ring_on n p d) (on_lt n p d inside (omega arith)) (none_open cells p k inside few shut misses d (omega arith))
    (ap (is_field_start cells) step ∙ misses d (omega arith))

-- ---- where a position is not open, the first open one going on is where a field starts
pub open_ahead : (cells : List Cell) (p : ℕ) → p < length cells → is_open cells p ≡ false → start_ahead cells p ≡ first_open cells p
open_ahead cells p inside shut =
    let n : ℕ = length cells in
    elim (search_cases n (λ d. is_field_start cells (ring_on n p (d + 1)))) [
      | inl found ↦
          let k : ℕ = found.0 in
          let step : ring_on n (ring_on n p k) 1 ≡ ring_on n p (k + 1) = on_more n p k inside found.1.inside in
          let opens : is_open cells (ring_on n p (k + 1)) ≡ true =
          ap (is_open cells) (sym step) ∙ start_open cells (ring_on n p k) (on_lt n p k inside (omega (arith, found.1.inside))) (ap (is_field_start cells) step ∙ found.1.hit) in
          start_at cells p k found.1.inside found.1.misses found.1.hit
          ∙ (elim (cases_lt (k + 1) n) [
            | inl less ↦
                open_at cells p (k + 1) (ring_on n p (k + 1)) less refl
                (λ d below. none_open cells p k inside (omega (arith, found.1.inside)) shut found.1.misses d (omega arith)) opens
            | inr round ↦
                let home : ring_on n p (k + 1) ≡ p = elim (on_cases n p (k + 1)) [ inl a ↦ absurd (omega (arith, a.0, round)) | inr a ↦ omega (arith, a.1, round, found.1.inside) ] in
                absurd (false≢true (sym shut ∙ ap (is_open cells) (sym home) ∙ opens))
          ])
      | inr none ↦
          start_nowhere cells p none
          ∙ open_nowhere cells p (λ d few. none_open cells p n inside (omega arith) shut none d (omega arith))
    ]
