-- The rest of a field, from the cursor up to the next attribute.
use Rattle.std.proofs.Common.{◌≡◌, ℕ, ◌+◌, ◌-◌, ◌<◌, ◌≤◌, ◌&&◌, Bool, true, false, ltb, leb, List, length, Some, refl, sym, ◌∙◌, ap, arith, inl, inr}
use Rattle.std.proofs.lemmas.Bool.{cases_lt, false≢true, le-leb, lt-leb, lt-ltb, le-ltb}
use Rattle.ds_codec.specs.declared.cell.Cell.{Cell}
use Rattle.ds_screen.specs.Ring.{ring_on, ring_back, ring_distance}
use Rattle.ds_screen.specs.Picture.{cell_at}
use Rattle.ds_screen.specs.Fields.{is_attribute, attribute_before, attribute_from, governs}
use Rattle.ds_screen.proofs.RingLaws.{on_cases, back_cases, distance_cases, on-zero, back-zero, IsFound, search_cases}
use Rattle.ds_screen.proofs.RuledLaws.{distance_on, on_distance, distance_lt}
use Rattle.ds_screen.proofs.FieldLaws.{before_found, before_none, from_found, from_none}
use Rattle.ds_screen.proofs.SpanLaws.{IsNext, ruled_by, not_ruled_by, next_from, back_on}
use Rattle.ds_keys.specs.KeyStep.{is_in_rest}
use Rattle.ds_keys.specs.Kept.{steps_to}

-- ---- the ring
on_sum : (n q i e : ℕ) → q < n → i < n → i + e ≤ n → ring_on n (ring_on n q i) e ≡ ring_on n q (i + e)
on_sum n q i e inside few within =
    elim (on_cases n q i) [
      | inl a ↦ elim (on_cases n (ring_on n q i) e) [
        | inl b ↦ elim (on_cases n q (i + e)) [ inl c ↦ omega arith | inr c ↦ omega arith ]
        | inr b ↦ elim (on_cases n q (i + e)) [ inl c ↦ omega arith | inr c ↦ omega arith ]
      ]
      | inr a ↦ elim (on_cases n (ring_on n q i) e) [
        | inl b ↦ elim (on_cases n q (i + e)) [ inl c ↦ omega arith | inr c ↦ omega arith ]
        | inr b ↦ elim (on_cases n q (i + e)) [ inl c ↦ omega arith | inr c ↦ omega arith ]
      ]
    ]

on_back : (n c d : ℕ) → c < n → d < n → ring_on n (ring_back n c d) d ≡ c
on_back n c d inside few =
    elim (back_cases n c d) [
      | inl a ↦ elim (on_cases n (ring_back n c d) d) [ inl b ↦ omega arith | inr b ↦ omega arith ]
      | inr a ↦ elim (on_cases n (ring_back n c d) d) [ inl b ↦ omega arith | inr b ↦ omega arith ]
    ]

back_inside : (n c d : ℕ) → c < n → d < n → ring_back n c d < n
back_inside n c d inside few = elim (back_cases n c d) [ inl a ↦ omega arith | inr a ↦ omega arith ]

distance_back : (n c d : ℕ) → c < n → d < n → ring_distance n (ring_back n c d) c ≡ d
distance_back n c d inside few =
    elim (back_cases n c d) [
      | inl a ↦ elim (distance_cases n (ring_back n c d) c) [ inl b ↦ omega arith | inr b ↦ omega arith ]
      | inr a ↦ elim (distance_cases n (ring_back n c d) c) [ inl b ↦ omega arith | inr b ↦ omega arith ]
    ]

-- the distance from c, by those from q
distance_ahead_of : (n q c p : ℕ) → q < n → c < n → p < n → ring_distance n q c ≤ ring_distance n q p
    → ring_distance n c p ≡ ring_distance n q p - ring_distance n q c
distance_ahead_of n q c p lt inside below far =
    elim (distance_cases n q c) [
      | inl a ↦ elim (distance_cases n q p) [
        | inl b ↦ elim (distance_cases n c p) [ inl d ↦ omega arith | inr d ↦ omega arith ]
        | inr b ↦ elim (distance_cases n c p) [ inl d ↦ omega arith | inr d ↦ omega arith ]
      ]
      | inr a ↦ elim (distance_cases n q p) [
        | inl b ↦ elim (distance_cases n c p) [ inl d ↦ omega arith | inr d ↦ omega arith ]
        | inr b ↦ elim (distance_cases n c p) [ inl d ↦ omega arith | inr d ↦ omega arith ]
      ]
    ]

distance_behind : (n q c p : ℕ) → q < n → c < n → p < n → ring_distance n q p < ring_distance n q c
    → ring_distance n c p ≡ n + ring_distance n q p - ring_distance n q c
distance_behind n q c p lt inside below near =
    elim (distance_cases n q c) [
      | inl a ↦ elim (distance_cases n q p) [
        | inl b ↦ elim (distance_cases n c p) [ inl d ↦ omega arith | inr d ↦ omega arith ]
        | inr b ↦ elim (distance_cases n c p) [ inl d ↦ omega arith | inr d ↦ omega arith ]
      ]
      | inr a ↦ elim (distance_cases n q p) [
        | inl b ↦ elim (distance_cases n c p) [ inl d ↦ omega arith | inr d ↦ omega arith ]
        | inr b ↦ elim (distance_cases n c p) [ inl d ↦ omega arith | inr d ↦ omega arith ]
      ]
    ]

-- ---- a buffer without attributes
on_as_back : (n c d : ℕ) → c < n → 0 < d → d < n → ring_on n c d ≡ ring_back n c (n - d)
on_as_back n c d inside some few =
    elim (on_cases n c d) [
      | inl a ↦ elim (back_cases n c (n - d)) [ inl b ↦ omega arith | inr b ↦ omega arith ]
      | inr a ↦ elim (back_cases n c (n - d)) [ inl b ↦ omega arith | inr b ↦ omega arith ]
    ]

rest_plain : (n c p : ℕ) → c < n → p < n → ltb (ring_distance n c p) (n - c) ≡ leb c p
rest_plain n c p inside lt =
    elim (distance_cases n c p) [
      | inl a ↦ lt-ltb _ _ (omega arith) ∙ sym (le-leb c p a.0)
      | inr a ↦ le-ltb _ _ (omega arith) ∙ sym (lt-leb c p a.0)
    ]

none_on : (cells : List Cell) (c : ℕ) → c < length cells → ((d : ℕ) → d < length cells → is_attribute (cell_at cells (ring_back (length cells) c d)) ≡ false)
    → (d : ℕ) → d < length cells → is_attribute (cell_at cells (ring_on (length cells) c d)) ≡ false
none_on cells c inside none d few =
    elim (cases_lt 0 d) [
      | inl some ↦ ap (λ z. is_attribute (cell_at cells z)) (on_as_back (length cells) c d inside some few) ∙ none (length cells - d) (omega arith)
      | inr first ↦
          let home : d ≡ 0 = omega arith in
          ap (λ z. is_attribute (cell_at cells z)) (ap (ring_on (length cells) c) home ∙ on-zero (length cells) c inside ∙ sym (back-zero (length cells) c))
          ∙ none 0 (omega arith)
    ]

-- ---- a field
and_no : (t : Bool) → (t && false) ≡ false
and_no true = refl
and_no false = refl

-- the cursor stands d steps behind the attribute at q, which governs K cells
record Stands (cells : List Cell) (q c d K : ℕ) : Type 0 where
  lt : q < length cells
  inside : c < length cells
  there : is_attribute (cell_at cells q) ≡ true
  some : 0 < d
  within : d ≤ K
  home : ring_on (length cells) q d ≡ c
  away : ring_distance (length cells) q c ≡ d
  next : IsNext cells q K

stop_of : (cells : List Cell) (q c d K : ℕ) → Stands cells q c d K → Some (ring_on (length cells) c (K + 1 - d)) ≡ attribute_from cells c
stop_of cells q c d K s =
    let n : ℕ = length cells in
    let few : K < n = s.next.inside in
    let step : (e : ℕ) → d + e ≤ n → ring_on n c e ≡ ring_on n q (d + e) =
    λ e small. ap (λ z. ring_on n z e) (sym s.home) ∙ on_sum n q d e s.lt (omega (arith, s.within)) small in
    from_found cells n c (K + 1 - d) (ring_on n c (K + 1 - d)) refl (omega (arith, s.some)) refl
    (λ e below. ap (λ z. is_attribute (cell_at cells z)) (step e (omega (arith, s.within))) ∙ s.next.characters (d + e) (omega (arith, s.some)) (omega (arith, s.within)))
    (let last : d + (K + 1 - d) ≡ K + 1 = omega (arith, s.within) in
    ap (λ z. is_attribute (cell_at cells z)) (step (K + 1 - d) (omega (arith, s.within)) ∙ ap (ring_on n q) last) ∙ s.next.stop)

rest_here : (cells : List Cell) (q c d K p : ℕ) → Stands cells q c d K → p < length cells
    → ltb (ring_distance (length cells) c p) (K + 1 - d) ≡ is_in_rest cells c (Some q) p
rest_here cells q c d K p s lt =
    let n : ℕ = length cells in
    let few : K < n = s.next.inside in
    let i : ℕ = ring_distance n q p in
    let small : i < n = distance_lt n q p s.lt lt in
    let place : ring_on n q i ≡ p = on_distance n q p s.lt lt in
    elim (cases_lt i d) [
      | inl near ↦
          let far : ring_distance n c p ≡ n + i - ring_distance n q c = distance_behind n q c p s.lt s.inside lt (omega (arith, s.away)) in
          le-ltb _ _ (omega (arith, s.away, s.within))
          ∙ sym (ap (λ t. governs cells q p && t) (lt-leb (ring_distance n q c) i (omega (arith, s.away))) ∙ and_no (governs cells q p))
      | inr from ↦
          let ahead : ring_distance n c p ≡ i - ring_distance n q c = distance_ahead_of n q c p s.lt s.inside lt (omega (arith, s.away)) in
          elim (cases_lt K i) [
            | inl past ↦
                le-ltb _ _ (omega (arith, s.away, s.within))
                ∙ sym (ap (λ t. t && leb (ring_distance n q c) i) (ap (governs cells q) (sym place) ∙ not_ruled_by cells q K i s.lt s.next past small))
            | inr ruled ↦
                lt-ltb _ _ (omega (arith, s.away, s.within))
                ∙ sym (ap (λ t. t && leb (ring_distance n q c) i) (ap (governs cells q) (sym place) ∙ ruled_by cells q K i s.lt s.there s.next (omega (arith, s.some)) ruled)
                ∙ le-leb (ring_distance n q c) i (omega (arith, s.away)))
          ]
    ]

rest_field : (cells : List Cell) (q c d K p : ℕ) → Stands cells q c d K → p < length cells
    → ltb (ring_distance (length cells) c p) (steps_to (length cells) c (attribute_from cells c)) ≡ is_in_rest cells c (Some q) p
rest_field cells q c d K p s lt =
    let n : ℕ = length cells in
    let few : K < n = s.next.inside in
    ap (λ o. ltb (ring_distance n c p) (steps_to n c o)) (sym (stop_of cells q c d K s))
    ∙ ap (ltb (ring_distance n c p)) (distance_on n c (K + 1 - d) s.inside (omega (arith, s.some)))
    ∙ rest_here cells q c d K p s lt

-- an attribute that is found going back governs the cursor's character
within_field : (cells : List Cell) (c d K : ℕ) → c < length cells → IsFound (length cells) (λ e. is_attribute (cell_at cells (ring_back (length cells) c e))) d
    → IsNext cells (ring_back (length cells) c d) K → d ≤ K
within_field cells c d K inside found next =
    let n : ℕ = length cells in
    let q : ℕ = ring_back n c d in
    elim (cases_lt K d) [
      | inl past ↦
          let lt : q < n = back_inside n c d inside found.inside in
          let same : ring_back n c (d - (K + 1)) ≡ ring_on n q (K + 1) =
          ap (λ z. ring_back n z (d - (K + 1))) (sym (on_back n c d inside found.inside)) ∙ back_on n q d (d - (K + 1)) lt found.inside (omega arith) ∙ ap (ring_on n q) (omega arith) in
          absurd (false≢true (sym (found.misses (d - (K + 1)) (omega arith)) ∙ ap (λ z. is_attribute (cell_at cells z)) same ∙ next.stop))
      | inr ok ↦ ok
    ]

stands : (cells : List Cell) (c d K : ℕ) → c < length cells → IsFound (length cells) (λ e. is_attribute (cell_at cells (ring_back (length cells) c e))) d
    → 0 < d → IsNext cells (ring_back (length cells) c d) K → Stands cells (ring_back (length cells) c d) c d K
stands cells c d K inside found some next =
    record {
      lt = back_inside (length cells) c d inside found.inside;
      inside = inside;
      there = found.hit;
      some = some;
      within = within_field cells c d K inside found next;
      home = on_back (length cells) c d inside found.inside;
      away = distance_back (length cells) c d inside found.inside;
      next = next;
    }

behind_character : (cells : List Cell) (c d : ℕ) → is_attribute (cell_at cells c) ≡ false → IsFound (length cells) (λ e. is_attribute (cell_at cells (ring_back (length cells) c e))) d → 0 < d
behind_character cells c d character found =
    elim (cases_lt 0 d) [
      | inl some ↦ some
      | inr first ↦
          let home : d ≡ 0 = omega arith in
          absurd (false≢true (sym character ∙ ap (λ z. is_attribute (cell_at cells z)) (sym (ap (ring_back (length cells) c) home ∙ back-zero (length cells) c)) ∙ found.hit))
    ]

-- the positions from an open one up to the next attribute are the rest of its field
pub rest_law : (cells : List Cell) (c p : ℕ) → c < length cells → p < length cells → is_attribute (cell_at cells c) ≡ false
    → ltb (ring_distance (length cells) c p) (steps_to (length cells) c (attribute_from cells c)) ≡ is_in_rest cells c (attribute_before cells c) p
rest_law cells c p inside lt character =
    let n : ℕ = length cells in
    elim (search_cases n (λ d. is_attribute (cell_at cells (ring_back n c d)))) [
      | inl found ↦
          let d : ℕ = found.0 in
          let q : ℕ = ring_back n c d in
          let some : 0 < d = behind_character cells c d character found.1 in
          let few : d < n = found.1.inside in
          let in_ring : q < n = back_inside n c d inside few in
          let before : Some q ≡ attribute_before cells c = before_found cells n c d q refl few refl found.1.misses found.1.hit in
          elim (search_cases n (λ e. is_attribute (cell_at cells (ring_on n (ring_on n q 1) e)))) [
            | inl nx ↦
                rest_field cells q c d nx.0 p (stands cells c d nx.0 inside found.1 some (next_from cells q nx.0 in_ring nx.1)) lt
                ∙ ap (λ o. is_in_rest cells c o p) before
            | inr none ↦ absurd (false≢true (sym (none (n - 1) (omega arith)) ∙ ap (λ z. is_attribute (cell_at cells z)) (round n q in_ring (omega arith)) ∙ found.1.hit))
          ]
      | inr none ↦
          ap (λ o. ltb (ring_distance n c p) (steps_to n c o)) (sym (from_none cells n c refl (none_on cells c inside none)))
          ∙ rest_plain n c p inside lt ∙ ap (λ o. is_in_rest cells c o p) (before_none cells n c refl none)
    ]
  where
    round : (n q : ℕ) → q < n → 1 < n → ring_on n (ring_on n q 1) (n - 1) ≡ q
    round n q inside many = on_sum n q 1 (n - 1) inside many (omega arith) ∙ elim (on_cases n q (1 + (n - 1))) [ inl c ↦ omega arith | inr c ↦ omega arith ]
