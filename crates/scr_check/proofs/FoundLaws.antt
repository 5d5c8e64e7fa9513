-- The first entries, each of which has a field.
use Rattle.std.proofs.Common.{◌≡◌, ℕ, zero, suc, ◌+◌, ◌<◌, ◌≤◌, ◌==◌, ◌&&◌, true, false, List, [], ◌∷◌, ◌++◌, length, map, get_or, drop, Option, Some, None, refl, sym, ◌∙◌, ap, subst, arith, inl, inr}
use Rattle.std.specs.Prelude.{nat_lt, All, option_to_list}
use Rattle.std.proofs.lemmas.Bool.{cond-true, cond-false, cases_Bool, cases_lt, lt-ltb, eqb-true}
use Rattle.std.specs.List.{flat_map}
use Rattle.std.proofs.lemmas.List.{append_assoc}
use Rattle.std.proofs.lemmas.List.Elements.{All-nil, All-cons}
use Rattle.std.proofs.lemmas.List.Quantifiers.{position-Some}
use Rattle.std.proofs.Math.Seq.{drop-nil}
use Rattle.ds_codec.specs.declared.cell.Cell.{Cell}
use Rattle.ds_screen.specs.declared.field.FieldAt.{FieldAt}
use Rattle.ds_screen.specs.Ring.{ring_on, ring_back}
use Rattle.ds_screen.specs.Picture.{cell_at}
use Rattle.ds_screen.specs.Fields.{is_attribute, span_of, field_at, fields_from, fields_of}
use Rattle.ds_screen.proofs.RingLaws.{on_cases, back_cases}
use Rattle.ds_screen.proofs.SpanLaws.{attributes_here, attributes_skip}
use Rattle.ds_screen.proofs.OutlineFieldLaws.{attributes_none}
use Rattle.scr_layout.specs.Entry.{Declared}
use Rattle.scr_check.specs.Findings.{entry_at, entry_of, has_field, HaveFields, missing_from}
use Rattle.scr_check.specs.declared.finding.Finding.{Finding}
use Rattle.scr_check.specs.declared.finding.Finding.TheVariants.{Missing}
use Rattle.scr_check.proofs.ListLaws.{none_some}

-- an attribute stands there, and begins this field
abbrev pub IsField : List Cell → FieldAt → Type 0
IsField cells field = (q : ℕ) × (q < length cells) × (is_attribute (cell_at cells q) ≡ true) × (field ≡ field_at cells q)

fields_there : (n : ℕ) (cells : List Cell) (p : ℕ) → p + n ≡ length cells → All (IsField cells) (fields_from cells p)
fields_there zero cells p is =
    subst (λ (qs : List ℕ). All (IsField cells) (map (field_at cells) qs)) (sym (attributes_none cells p (λ q low high. absurd (omega (arith, low, high, is)))))
    (All-nil (IsField cells))
fields_there (suc n) cells p is =
    let inside : p < length cells = omega (arith, is) in
    let after : All (IsField cells) (fields_from cells (p + 1)) = fields_there n cells (p + 1) (omega (arith, is)) in
    elim (cases_Bool (is_attribute (cell_at cells p))) [
      | inl there ↦
          subst (λ (qs : List ℕ). All (IsField cells) (map (field_at cells) qs)) (sym (attributes_here cells p inside there))
          (All-cons (IsField cells) (field_at cells p) (fields_from cells (p + 1)) (p, inside, there, refl) after)
      | inr none ↦ subst (λ (qs : List ℕ). All (IsField cells) (map (field_at cells) qs)) (sym (attributes_skip cells p inside none)) after
    ]

pub fields_are : (cells : List Cell) → All (IsField cells) (fields_of cells)
fields_are cells = fields_there (length cells) cells 0 (omega arith)

back_on : (n q : ℕ) → q < n → ring_back n (ring_on n q 1) 1 ≡ q
back_on n q lt = elim (on_cases n q 1) [
  | inl c ↦ elim (back_cases n (ring_on n q 1) 1) [ inl d ↦ omega arith | inr d ↦ omega arith ]
  | inr c ↦ elim (back_cases n (ring_on n q 1) 1) [ inl d ↦ omega arith | inr d ↦ omega arith ]
]

-- a field that governs cells begins at its place
has_there : (cells : List Cell) (field : FieldAt) (place : ℕ) → IsField cells field → 0 < field.length → place ≡ field.place → has_field cells place ≡ true
unfolding has_field
has_there cells field place (q, inside, there, is) some at =
    let back : ring_back (length cells) place 1 ≡ q = ap (λ p. ring_back (length cells) p 1) (at ∙ ap (λ (f : FieldAt). f.place) is) ∙ back_on (length cells) q inside in
    let spans : 0 < length (span_of cells q) = omega (arith, some, ap (λ (f : FieldAt). f.length) is) in
    ap (λ p. is_attribute (cell_at cells p) && nat_lt 0 (length (span_of cells p))) back
    ∙ ap (λ b. b && nat_lt 0 (length (span_of cells q))) there ∙ lt-ltb 0 (length (span_of cells q)) spans

not_zero : (n : ℕ) → n == 0 ≡ false → 0 < n
not_zero zero is = absurd cc
not_zero (suc n) is = omega arith

-- what an entry that is found says: it begins where the field does, which governs cells
found_there : (cells : List Cell) (entries : List Declared) (field : FieldAt) (index : ℕ) (entry : Declared) → IsField cells field
    → entry_of entries field ≡ Some index → has_field cells (get_or entries index entry).place ≡ true
found_there cells entries field index entry is found = elim (cases_Bool (field.length == 0)) [
  | inl empty ↦ absurd (none_some index (sym (cond-true (field.length == 0) None (entry_at entries field.place) empty) ∙ found))
  | inr some ↦
      let at : entry_at entries field.place ≡ Some index = sym (cond-false (field.length == 0) None (entry_at entries field.place) some) ∙ found in
      let passes = (position-Some (λ (e : Declared). field.place == e.place) entries index entry at).1 in
      has_there cells field (get_or entries index entry).place is (not_zero field.length some) (sym (eqb-true field.place (get_or entries index entry).place passes))
]

-- one more of the first entries has a field, where the field's entry is the next one
pub found_more : (cells : List Cell) (entries : List Declared) (first next : ℕ) (field : FieldAt) (index : Option ℕ) → IsField cells field → index ≡ entry_of entries field
    → next ≤ first + 1 → (first < next → index ≡ Some first) → HaveFields cells entries first → HaveFields cells entries next
found_more cells entries first next field index is told within new before k entry lt inside = elim (cases_lt k first) [
  | inl old ↦ before k entry old inside
  | inr last ↦
      let here : k ≡ first = omega (arith, last, lt, within) in
      subst (λ (j : ℕ). has_field cells (get_or entries j entry).place ≡ true) (sym here)
      (found_there cells entries field first entry is (sym told ∙ new (omega (arith, here, lt))))
]

-- the first of fields, and those behind it
pub first_of : (P : FieldAt → Type 0) (fields rest : List FieldAt) (field : FieldAt) → fields ≡ field ∷ rest → All P fields → P field × All P rest
first_of P fields rest field is all = let both : All P (field ∷ rest) = subst (All P) is all in (both 0 field (omega arith), λ k d lt. both (suc k) d (omega (arith, lt)))

-- what stands against one more field was added
pub field_told : (f : FieldAt → List Finding) (found now : List Finding) (finding : Finding) (field : FieldAt) (fields rest : List FieldAt) → fields ≡ field ∷ rest
    → now ≡ found ++ finding ∷ [] → finding ∷ [] ≡ f field → now ++ flat_map f rest ≡ found ++ flat_map f fields
field_told f found now finding field fields rest is pushed same =
    ap (λ l. l ++ flat_map f rest) pushed ∙ append_assoc found (finding ∷ []) (flat_map f rest) ∙ ap (λ l. found ++ (l ++ flat_map f rest)) same
    ∙ ap (λ fs. found ++ flat_map f fs) (sym is)

-- nothing stands against one more field
pub field_passed : (f : FieldAt → List Finding) (found : List Finding) (field : FieldAt) (fields rest : List FieldAt) → fields ≡ field ∷ rest
    → [] ≡ f field → found ++ flat_map f rest ≡ found ++ flat_map f fields
field_passed f found field fields rest is same = ap (λ l. found ++ (l ++ flat_map f rest)) same ∙ ap (λ fs. found ++ flat_map f fs) (sym is)

missing_drop : (cells : List Cell) (entries : List Declared) (index first : ℕ) → HaveFields cells entries first
    → missing_from cells (index + first) (drop first entries) ≡ missing_from cells index entries
missing_drop cells [] index first have = ap (missing_from cells (index + first)) (drop-nil first)
missing_drop cells (e ∷ es) index zero have =
    let at : index + 0 ≡ index = omega arith in
    ap (λ i. missing_from cells i (e ∷ es)) at
missing_drop cells (e ∷ es) index (suc first) have =
    let at : index + suc first ≡ index + 1 + first = omega arith in
    let has : has_field cells e.place ≡ true = have 0 e (omega arith) (omega arith) in
    ap (λ i. missing_from cells i (drop first es)) at
    ∙ missing_drop cells es (index + 1) first (λ k entry lt inside. have (suc k) entry (omega (arith, lt)) (omega (arith, inside)))
    ∙ sym (ap (λ o. option_to_list o ++ missing_from cells (index + 1) es) (cond-true (has_field cells e.place) None (Some (Missing index)) has))

-- the entries behind the first that have a field are those among which one may be missing
pub missing_behind : (cells : List Cell) (entries : List Declared) (first : ℕ) → HaveFields cells entries first
    → missing_from cells first (drop first entries) ≡ missing_from cells 0 entries
missing_behind cells entries first have =
    let at : first ≡ 0 + first = omega arith in
    ap (λ i. missing_from cells i (drop first entries)) at ∙ missing_drop cells entries 0 first have
