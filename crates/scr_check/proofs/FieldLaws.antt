-- Fields and entries, one after the other.
use Rattle.std.proofs.Common.{◌≡◌, ℕ, zero, suc, ◌+◌, ◌<◌, ◌&&◌, true, false, not, List, [], ◌∷◌, ◌++◌, length, get_or, drop, Some, None, refl, sym, ◌∙◌, ap, arith, inl, inr}
use Rattle.std.specs.Prelude.{nat_lt, option_to_list}
use Rattle.std.specs.List.{flat_map}
use Rattle.std.proofs.lemmas.Bool.{cond-true, cond-false, cases_Bool, lt-ltb}
use Rattle.std.proofs.lemmas.List.{append_assoc}
use Rattle.std.proofs.Math.Seq.{drop-cons}
use Rattle.ds_codec.specs.declared.cell.Cell.{Cell}
use Rattle.ds_screen.specs.declared.field.FieldAt.{FieldAt}
use Rattle.ds_screen.specs.Ring.{ring_on, ring_back}
use Rattle.ds_screen.specs.Picture.{Picture, cell_at}
use Rattle.ds_screen.specs.Fields.{is_attribute, span_of, fields_of}
use Rattle.ds_screen.proofs.RingLaws.{on_cases, back_cases, search_cases}
use Rattle.ds_screen.proofs.FieldLaws.{from_none}
use Rattle.ds_screen.proofs.SpanLaws.{IsNext, next_from, length-span_of, never_none}
use Rattle.scr_layout.specs.Entry.{Declared}
use Rattle.scr_layout.specs.Layout.{Declaration}
use Rattle.scr_check.specs.Findings.{field_finding, has_field, missing_finding, missing_from, findings_of}
use Rattle.scr_check.specs.declared.finding.Finding.{Finding}
use Rattle.scr_check.specs.declared.finding.Finding.TheVariants.{Missing}

-- an attribute governs cells where none stands behind it
spans_some : (cells : List Cell) (q : ℕ) → q < length cells → is_attribute (cell_at cells q) ≡ true
    → nat_lt 0 (length (span_of cells q)) ≡ not (is_attribute (cell_at cells (ring_on (length cells) q 1)))
spans_some cells q inside there =
    let n : ℕ = length cells in
    let near : ℕ = ring_on n q 1 in
    elim (search_cases n (λ d. is_attribute (cell_at cells (ring_on n near d)))) [
      | inl found ↦
          let next : IsNext cells q found.0 = next_from cells q found.0 inside found.1 in
          ap (nat_lt 0) (length-span_of cells q found.0 inside there next) ∙ counted found.0 next
      | inr none ↦ absurd (never_none cells q n near inside there refl refl (from_none cells n near refl none))
    ]
  where
    counted : (k : ℕ) → IsNext cells q k → nat_lt 0 k ≡ not (is_attribute (cell_at cells (ring_on (length cells) q 1)))
    counted zero next = ap not (sym next.stop)
    counted (suc k) next = lt-ltb 0 (suc k) (omega arith) ∙ ap not (sym (next.characters 1 (omega arith) (omega arith)))

-- a field begins at a place where an attribute stands before it and none at it
pub has_looks : (cells : List Cell) (place q : ℕ) → place < length cells → q ≡ ring_back (length cells) place 1
    → (is_attribute (cell_at cells q) && not (is_attribute (cell_at cells place))) ≡ has_field cells place
unfolding has_field
has_looks cells place q inside back =
    let n : ℕ = length cells in
    let first : q < n = elim (back_cases n place 1) [ inl c ↦ omega (arith, back) | inr c ↦ omega (arith, back) ] in
    let again : ring_on n q 1 ≡ place = elim (back_cases n place 1) [
      | inl c ↦ elim (on_cases n q 1) [ inl d ↦ omega (arith, back) | inr d ↦ omega (arith, back) ]
      | inr c ↦ elim (on_cases n q 1) [ inl d ↦ omega (arith, back) | inr d ↦ omega (arith, back) ]
    ] in
    (elim (cases_Bool (is_attribute (cell_at cells q))) [
      | inl stands ↦
          ap (λ b. b && not (is_attribute (cell_at cells place))) stands
          ∙ ap (λ p. not (is_attribute (cell_at cells p))) (sym again) ∙ sym (spans_some cells q first stands)
          ∙ ap (λ b. b && nat_lt 0 (length (span_of cells q))) (sym stands)
      | inr none ↦
          ap (λ b. b && not (is_attribute (cell_at cells place))) none
          ∙ ap (λ b. b && nat_lt 0 (length (span_of cells q))) (sym none)
    ])
    ∙ ap (λ p. is_attribute (cell_at cells p) && nat_lt 0 (length (span_of cells p))) back

-- one more entry
missing_front : (cells : List Cell) (entries : List Declared) (i : ℕ) (entry : Declared) → i < length entries → entry ≡ get_or entries i entry
    → missing_from cells i (drop i entries) ≡ option_to_list (missing_finding cells i entry) ++ missing_from cells (i + 1) (drop (i + 1) entries)
missing_front cells entries i entry lt is =
    let next : suc i ≡ i + 1 = omega arith in
    ap (missing_from cells i) (drop-cons entries i entry lt ∙ ap (λ e. e ∷ drop (suc i) entries) (sym is))
    ∙ ap (λ j. option_to_list (missing_finding cells i entry) ++ missing_from cells (i + 1) (drop j entries)) next

pub missing_there : (cells : List Cell) (entries : List Declared) (i : ℕ) (entry : Declared) (found : List Finding) → i < length entries → entry ≡ get_or entries i entry
    → true ≡ has_field cells entry.place → found ++ missing_from cells (i + 1) (drop (i + 1) entries) ≡ found ++ missing_from cells i (drop i entries)
missing_there cells entries i entry found lt is has =
    sym (ap (λ l. found ++ l) (missing_front cells entries i entry lt is
    ∙ ap (λ o. option_to_list o ++ missing_from cells (i + 1) (drop (i + 1) entries)) (cond-true (has_field cells entry.place) None (Some (Missing i)) (sym has))))

pub missing_told : (cells : List Cell) (entries : List Declared) (i : ℕ) (entry : Declared) (found now : List Finding) → i < length entries → entry ≡ get_or entries i entry
    → false ≡ has_field cells entry.place → now ≡ found ++ Missing i ∷ []
    → now ++ missing_from cells (i + 1) (drop (i + 1) entries) ≡ found ++ missing_from cells i (drop i entries)
missing_told cells entries i entry found now lt is has pushed =
    ap (λ l. l ++ missing_from cells (i + 1) (drop (i + 1) entries)) pushed ∙ append_assoc found (Missing i ∷ []) (missing_from cells (i + 1) (drop (i + 1) entries))
    ∙ sym (ap (λ l. found ++ l) (missing_front cells entries i entry lt is
    ∙ ap (λ o. option_to_list o ++ missing_from cells (i + 1) (drop (i + 1) entries)) (cond-false (has_field cells entry.place) None (Some (Missing i)) (sym has))))

-- what was added in turn is all that stands against the picture
pub findings_made : (layout : Declaration) (v : Picture) (entries : List Declared) (start first all : List Finding) → start ≡ [] → entries ≡ layout.entries
    → first ≡ start ++ flat_map (λ field. option_to_list (field_finding layout.entries v field)) (fields_of v.cells)
    → all ≡ first ++ missing_from v.cells 0 entries → all ≡ findings_of layout v
unfolding findings_of
findings_made layout v entries start first all none these adds misses =
    let f : FieldAt → List Finding = λ field. option_to_list (field_finding layout.entries v field) in
    misses ∙ ap (λ l. l ++ missing_from v.cells 0 entries) (adds ∙ ap (λ l. l ++ flat_map f (fields_of v.cells)) none)
    ∙ ap (λ l. flat_map f (fields_of v.cells) ++ missing_from v.cells 0 l) these
