-- The search backwards finds what governs, and distances are least ways.
use Rattle.std.proofs.Common.{◌≡◌, ℕ, ◌+◌, ◌-◌, ◌%◌, ◌<◌, ◌≤◌, ◌&&◌, true, List, length, Some, refl, sym, ◌∙◌, ap, subst, arith, inl, inr}
use Rattle.std.proofs.Math.Nat.{mod-eq_of_lt, add-mod_left}
use Rattle.std.proofs.lemmas.Bool.{cases_Bool, cases_lt, false≢true, eq-eqb, eqb-true, and_parts}
use Rattle.ds_codec.specs.declared.cell.Cell.{Cell}
use Rattle.ds_screen.specs.Ring.{ring_back, ring_distance}
use Rattle.ds_screen.specs.Picture.{cell_at}
use Rattle.ds_screen.specs.Fields.{is_attribute, is_character, attribute_before, is_at, governs}
use Rattle.ds_screen.specs.Laws.{Governs, GovernsExactly, IsLeastWay, DistanceIsLeast}
use Rattle.ds_screen.proofs.RingLaws.{back_cases, distance_cases, distance_ahead, distance_round, search_cases}
use Rattle.ds_screen.proofs.RuledLaws.{distance_lt}
use Rattle.ds_screen.proofs.FieldLaws.{before_found, before_none}

distance_back : (n p k : ℕ) → p < n → k < n → ring_distance n (ring_back n p k) p ≡ k
distance_back n p k inside few =
    elim (back_cases n p k) [
      | inl a ↦ elim (distance_cases n (ring_back n p k) p) [ inl d ↦ omega arith | inr d ↦ omega arith ]
      | inr a ↦ elim (distance_cases n (ring_back n p k) p) [ inl d ↦ omega arith | inr d ↦ omega arith ]
    ]

pub back_distance : (n p r : ℕ) → p < n → r < n → ring_back n p (ring_distance n r p) ≡ r
back_distance n p r inside lt =
    elim (distance_cases n r p) [
      | inl d ↦ elim (back_cases n p (ring_distance n r p)) [ inl a ↦ omega arith | inr a ↦ omega arith ]
      | inr d ↦ elim (back_cases n p (ring_distance n r p)) [ inl a ↦ omega arith | inr a ↦ omega arith ]
    ]

pub back_inside_ring : (n p e : ℕ) → p < n → e < n → ring_back n p e < n
back_inside_ring n p e inside few = elim (back_cases n p e) [ inl c ↦ omega arith | inr c ↦ omega arith ]

pub governs_so : (cells : List Cell) (q p : ℕ) → p < length cells → governs cells q p ≡ true → Governs cells q p
governs_so cells q p inside so =
    let n : ℕ = length cells in
    let parts = and_parts (is_character (cell_at cells p)) (is_at (attribute_before cells p) q) so in
    elim (search_cases n (λ d. is_attribute (cell_at cells (ring_back n p d)))) [
      | inl found ↦
          let before : Some (ring_back n p found.0) ≡ attribute_before cells p =
          before_found cells n p found.0 (ring_back n p found.0) refl found.1.inside refl found.1.misses found.1.hit in
          let same : ring_back n p found.0 ≡ q = eqb-true (ring_back n p found.0) q (ap (λ o. is_at o q) before ∙ parts.1) in
          let steps : ring_distance n q p ≡ found.0 = ap (λ z. ring_distance n z p) (sym same) ∙ distance_back n p found.0 inside found.1.inside in
          record {
            attribute = ap (λ z. is_attribute (cell_at cells z)) (sym same) ∙ found.1.hit;
            character = parts.0;
            nearest = λ r lt there nearer.
                false≢true (sym (found.1.misses (ring_distance n r p) (omega arith))
                ∙ ap (λ z. is_attribute (cell_at cells z)) (back_distance n p r inside lt) ∙ there);
          }
      | inr none ↦ absurd (false≢true (sym (ap (λ o. is_at o q) (sym (before_none cells n p refl none))) ∙ parts.1))
    ]

pub so_governs : (cells : List Cell) (q p : ℕ) → q < length cells → p < length cells → Governs cells q p → governs cells q p ≡ true
so_governs cells q p lt inside rules =
    let n : ℕ = length cells in
    let few : ring_distance n q p < n = distance_lt n q p lt inside in
    let found : Some q ≡ attribute_before cells p =
    before_found cells n p (ring_distance n q p) q refl few (sym (back_distance n p q inside lt))
    (λ e below. elim (cases_Bool (is_attribute (cell_at cells (ring_back n p e)))) [
      | inl there ↦ absurd (rules.nearest (ring_back n p e) (back_inside_ring n p e inside (omega arith)) there (omega (arith, distance_back n p e inside (omega arith))))
      | inr none ↦ none
    ])
    rules.attribute in
    ap (λ t. t && is_at (attribute_before cells p) q) rules.character ∙ ap (λ o. is_at o q) (sym found) ∙ eq-eqb q q refl

pub governs_exactly : GovernsExactly
governs_exactly cells q p lt inside = (λ so. governs_so cells q p inside so, λ rules. so_governs cells q p lt inside rules)

way_ahead : (n q p : ℕ) → q ≤ p → p < n → IsLeastWay n q p (p - q)
way_ahead n q p from inside =
    record {
      leads = let there : q + (p - q) ≡ p = omega arith in ap (λ x. x % n) there ∙ mod-eq_of_lt inside;
      least = λ d few same. let small : q + d < n = omega arith in let is : q + d ≡ p = sym (mod-eq_of_lt small) ∙ same in omega arith;
    }

way_round : (n q p : ℕ) → p < q → q < n → IsLeastWay n q p (n + p - q)
way_round n q p behind inside =
    let small : p < n = omega arith in
    record {
      leads = let there : q + (n + p - q) ≡ n + p = omega arith in ap (λ x. x % n) there ∙ add-mod_left n p ∙ mod-eq_of_lt small;
      least = λ d few same. elim (cases_lt (q + d) n) [
        | inl short ↦ let is : q + d ≡ p = sym (mod-eq_of_lt short) ∙ same in omega arith
        | inr round ↦
            let back : q + d ≡ n + (q + d - n) = omega arith in
            let rest : q + d - n < n = omega arith in
            let is : q + d - n ≡ p = sym (ap (λ x. x % n) back ∙ add-mod_left n (q + d - n) ∙ mod-eq_of_lt rest) ∙ same in
            omega arith
      ];
    }

pub distance_least : DistanceIsLeast
distance_least n q p from to =
    elim (cases_lt p q) [
      | inl behind ↦ subst (IsLeastWay n q p) (sym (distance_round n q p behind)) (way_round n q p behind from)
      | inr ahead ↦ subst (IsLeastWay n q p) (sym (distance_ahead n q p ahead)) (way_ahead n q p ahead to)
    ]
