-- Fewer modified data tags on unprotected attributes, fewer findings.
use Rattle.std.proofs.Common.{◌≡◌, ℕ, ◌+◌, ◌-◌, ◌&&◌, ◌||◌, Bool, true, false, not, cond, eqb, ltb, List, [], ◌∷◌, ◌++◌, length, map, Option, Some, None, refl, sym, ◌∙◌, ap, inl, inr}
use Rattle.std.specs.Prelude.{slice_get, option_to_list}
use Rattle.std.specs.List.{flat_map, range_with_len}
use Rattle.std.proofs.lemmas.Bool.{cond-true, cond-false, cases_Bool, and_parts, eq-eqb}
use Rattle.ds_codec.specs.declared.cell.Cell.{Cell}
use Rattle.ds_codec.specs.Attribute.{is_protected, is_modified}
use Rattle.ds_screen.specs.declared.field.FieldAt.{FieldAt}
use Rattle.ds_screen.specs.Ring.{ring_on, ring_back}
use Rattle.ds_screen.specs.Picture.{Picture, cell_at}
use Rattle.ds_screen.specs.Fields.{is_attribute, span_of, field_at, attributes_from}
use Rattle.scr_layout.specs.declared.entry.Kind.{Kind}
use Rattle.scr_layout.specs.declared.entry.Kind.TheVariants.{Input, Fixed}
use Rattle.scr_layout.specs.Entry.{Declared}
use Rattle.scr_layout.specs.Layout.{Declaration}
use Rattle.scr_check.specs.declared.finding.Finding.{Finding}
use Rattle.scr_check.specs.declared.finding.Finding.TheVariants.{Missing}
use Rattle.scr_check.specs.Findings.{entry_at, is_of_kind, empty_finding, undeclared_finding, declared_finding, at_entry, entry_finding, field_finding, has_field, missing_finding, missing_from, findings_of}
use Rattle.scr_check.specs.Promise.{is_among}
use Rattle.scr_check.proofs.Among.{among_filter}
use Rattle.scr_check.proofs.TouchedFields.{field_clean}
use Rattle.scr_check.proofs.UnderCells.{under_kind, under_protection, under_modified, AreUnder, same_span}

-- ---- tests
not_told : {A : Type 0} (t : Bool) (x : A) (r : Option A) → cond t (Some x) r ≡ None → (t ≡ false) × (r ≡ None)
not_told true x r is = absurd cc
not_told false x r is = (refl, is)

not_telling : {A : Type 0} (t : Bool) (x : A) (r : Option A) → t ≡ false → r ≡ None → cond t (Some x) r ≡ None
not_telling true x r is none = absurd cc
not_telling false x r is none = none

fewer : (t s : Bool) → (t ≡ true → s ≡ true) → s ≡ false → t ≡ false
fewer true s more none = sym (more refl) ∙ none
fewer false s more none = refl

-- ---- one field
-- of the two, the first is modified only where the second is
pub record FieldUnder (f g : FieldAt) : Type 0 where
  pub place : f.place ≡ g.place
  pub length : f.length ≡ g.length
  pub protection : is_protected f.attr ≡ is_protected g.attr
  pub modified : is_modified f.attr ≡ true → is_modified g.attr ≡ true

empty_fewer : (f g : FieldAt) → FieldUnder f g → empty_finding g ≡ None → empty_finding f ≡ None
empty_fewer f g u none =
    not_telling (is_modified f.attr) _ None (fewer (is_modified f.attr) (is_modified g.attr) u.modified (not_told (is_modified g.attr) _ None none).0) refl

undeclared_fewer : (v w : Picture) (f g : FieldAt) → FieldUnder f g → undeclared_finding w g ≡ None → undeclared_finding v f ≡ None
undeclared_fewer v w f g u none =
    let first = not_told (not (is_protected g.attr)) _ _ none in
    let second = not_told (is_modified g.attr) _ None first.1 in
    not_telling (not (is_protected f.attr)) _ _ (ap not u.protection ∙ first.0)
    (not_telling (is_modified f.attr) _ None (fewer (is_modified f.attr) (is_modified g.attr) u.modified second.0) refl)

kind_same : (kind : Kind) (f g : FieldAt) → FieldUnder f g → is_of_kind kind f.attr ≡ is_of_kind kind g.attr
kind_same Input f g u = ap not u.protection
kind_same Fixed f g u = u.protection

declared_fewer : (v w : Picture) (f g : FieldAt) (index : ℕ) (entry : Declared) → FieldUnder f g → declared_finding w g index entry ≡ None → declared_finding v f index entry ≡ None
declared_fewer v w f g index entry u none =
    let first = not_told (not (is_of_kind entry.kind g.attr)) _ _ none in
    let second = not_told (ltb entry.length g.length) _ None first.1 in
    not_telling (not (is_of_kind entry.kind f.attr)) _ _ (ap not (kind_same entry.kind f g u) ∙ first.0)
    (not_telling (ltb entry.length f.length) _ None (ap (ltb entry.length) u.length ∙ second.0) refl)

at_fewer : (v w : Picture) (f g : FieldAt) (index : ℕ) (o : Option Declared) → FieldUnder f g → at_entry w g index o ≡ None → at_entry v f index o ≡ None
at_fewer v w f g index None u none = undeclared_fewer v w f g u none
at_fewer v w f g index (Some entry) u none = declared_fewer v w f g index entry u none

entry_fewer : (v w : Picture) (f g : FieldAt) (entries : List Declared) (o : Option ℕ) → FieldUnder f g → entry_finding w g entries o ≡ None → entry_finding v f entries o ≡ None
entry_fewer v w f g entries None u none = undeclared_fewer v w f g u none
entry_fewer v w f g entries (Some index) u none = at_fewer v w f g index (slice_get entries index) u none

field_fewer : (entries : List Declared) (v w : Picture) (f g : FieldAt) → FieldUnder f g → field_finding entries w g ≡ None → field_finding entries v f ≡ None
unfolding field_finding
field_fewer entries v w f g u none =
    elim (cases_Bool (eqb g.length 0)) [
      | inl empty ↦
          cond-true (eqb f.length 0) _ _ (ap (λ n. eqb n 0) u.length ∙ empty)
          ∙ empty_fewer f g u (sym (cond-true (eqb g.length 0) _ _ empty) ∙ none)
      | inr some ↦
          cond-false (eqb f.length 0) _ _ (ap (λ n. eqb n 0) u.length ∙ some)
          ∙ entry_fewer v w f g entries (entry_at entries f.place) u
          (ap (λ p. entry_finding w g entries (entry_at entries p)) u.place ∙ sym (cond-false (eqb g.length 0) _ _ some) ∙ none)
    ]

field_under : (a b : List Cell) (q : ℕ) → AreUnder a b → FieldUnder (field_at a q) (field_at b q)
field_under a b q u =
    record {
      place = ap (λ n. ring_on n q 1) u.whole;
      length = ap length (same_span a b q u);
      protection = under_protection (cell_at a q) (cell_at b q) (u.each q);
      modified = under_modified (cell_at a q) (cell_at b q) (u.each q);
    }

-- ---- all fields
-- nothing is found where nothing is found at any place
all_none : {A F : Type 0} (found : F → Option A) (made : ℕ → F) (places : List ℕ) → ((q : ℕ) → is_among places q ≡ true → found (made q) ≡ None)
    → flat_map (λ f. option_to_list (found f)) (map made places) ≡ []
all_none found made [] none = refl
all_none found made (p ∷ places) none =
    ap (λ o. option_to_list o ++ flat_map (λ f. option_to_list (found f)) (map made places)) (none p (ap (λ t. t || is_among places p) (eq-eqb p p refl)))
    ∙ all_none found made places (λ q among. none q (late (eqb p q) (is_among places q) among))
  where
    late : (t s : Bool) → s ≡ true → (t || s) ≡ true
    late true s is = refl
    late false s is = is

is_there : (cells : List Cell) (q : ℕ) → is_among (attributes_from cells 0) q ≡ true → is_attribute (cell_at cells q) ≡ true
is_there cells q among =
    let test : ℕ → Bool = λ p. is_attribute (cell_at cells p) in
    (and_parts (test q) (is_among (range_with_len 0 (length cells - 0)) q) (sym (among_filter test (range_with_len 0 (length cells - 0)) q) ∙ among)).0

has_same : (a b : List Cell) (place : ℕ) → AreUnder a b → has_field a place ≡ has_field b place
unfolding has_field
has_same a b place u =
    let q : ℕ = ring_back (length b) place 1 in
    ap (λ n. is_attribute (cell_at a (ring_back n place 1)) && ltb 0 (length (span_of a (ring_back n place 1)))) u.whole
    ∙ ap (λ t. t && ltb 0 (length (span_of a q))) (under_kind (cell_at a q) (cell_at b q) (u.each q))
    ∙ ap (λ s. is_attribute (cell_at b q) && ltb 0 (length s)) (same_span a b q u)

abbrev missing_by : Bool → ℕ → Option Finding
missing_by t index = cond t None (Some (Missing index))

missing_same : (a b : List Cell) (index : ℕ) (entries : List Declared) → AreUnder a b → missing_from a index entries ≡ missing_from b index entries
missing_same a b index [] u = refl
missing_same a b index (entry ∷ entries) u =
    ap (λ t. option_to_list (missing_by t index) ++ missing_from a (index + 1) entries) (has_same a b entry.place u)
    ∙ ap (λ l. option_to_list (missing_finding b index entry) ++ l) (missing_same a b (index + 1) entries u)

rest_none : {A : Type 0} (xs ys : List A) → xs ++ ys ≡ [] → ys ≡ []
rest_none [] ys e = e
rest_none (x ∷ xs) ys e = absurd cc

both_none : {A : Type 0} (xs ys : List A) → xs ≡ [] → ys ≡ [] → xs ++ ys ≡ []
both_none [] ys first second = second
both_none (x ∷ xs) ys first second = absurd cc

-- a picture below another, against which nothing stands, has nothing against it either
pub fewer_tags_fewer_findings : (layout : Declaration) (v w : Picture) → AreUnder v.cells w.cells → findings_of layout w ≡ [] → findings_of layout v ≡ []
unfolding findings_of
fewer_tags_fewer_findings layout v w u clean =
    both_none (flat_map (λ field. option_to_list (field_finding layout.entries v field)) (map (field_at v.cells) (attributes_from v.cells 0))) (missing_from v.cells 0 layout.entries)
    (all_none (field_finding layout.entries v) (field_at v.cells) (attributes_from v.cells 0) (λ q among.
    let there : is_attribute (cell_at w.cells q) ≡ true = sym (under_kind (cell_at v.cells q) (cell_at w.cells q) (u.each q)) ∙ is_there v.cells q among in
    field_fewer layout.entries v w (field_at v.cells q) (field_at w.cells q) (field_under v.cells w.cells q u) (field_clean layout w q clean there)))
    (missing_same v.cells w.cells 0 layout.entries u ∙ rest_none (flat_map (λ field. option_to_list (field_finding layout.entries w field)) (map (field_at w.cells) (attributes_from w.cells 0))) (missing_from w.cells 0 layout.entries) clean)
