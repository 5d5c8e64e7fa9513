-- A draft conforms wherever any layout does.
use Rattle.std.proofs.Common.{◌≡◌, ℕ, zero, suc, ◌+◌, ◌-◌, ◌<◌, ◌≤◌, ◌&&◌, ◌||◌, not, Bool, true, false, cond, ◌==◌, List, [], ◌∷◌, ◌++◌, append-nil, map, length, Option, Some, None, refl, sym, ◌∙◌, ap, subst, arith, inl, inr}
use Rattle.std.specs.Prelude.{nat_lt, position, option_to_list}
use Rattle.std.specs.List.{range_with_len, filter, flat_map, slice_get, position_or_len}
use Rattle.std.specs.Option.{option_map}
use Rattle.std.proofs.lemmas.Bool.{cond-true, cond-false, cases_Bool, eqb-true, eq-eqb, ltb-false, lt-ltb, le-ltb, and_parts, or_parts, false_from_ne_true}
use Rattle.std.proofs.lemmas.Option.{slice_get-map}
use Rattle.ds_codec.specs.declared.cell.Cell.{Cell}
use Rattle.ds_codec.specs.Attribute.{is_protected, is_modified}
use Rattle.ds_screen.specs.declared.field.FieldAt.{FieldAt}
use Rattle.ds_screen.specs.Ring.{ring_on, ring_back}
use Rattle.ds_screen.specs.Picture.{Picture, cell_at}
use Rattle.ds_screen.specs.Fields.{is_attribute, span_of, field_at, fields_of}
use Rattle.ds_screen.proofs.RingLaws.{on_cases, back_cases}
use Rattle.scr_layout.specs.Entry.{Declared}
use Rattle.scr_layout.specs.Layout.{Declaration}
use Rattle.scr_check.specs.declared.finding.Finding.{Finding}
use Rattle.scr_check.specs.declared.finding.Finding.TheVariants.{Missing}
use Rattle.scr_check.specs.Findings.{entry_at, is_of_kind, empty_finding, undeclared_finding, declared_finding, at_entry, entry_finding, field_finding, has_field, missing_from, findings_of}
use Rattle.scr_check.proofs.ListLaws.{Each, each_at, each_append, each_map, each_kept, some_same, none_some, position_there, position_passes}
use Rattle.scr_draft.specs.Drafted.{is_drafted, drafted_fields, kind_of, Named, named, drafts_from, drafts_of, entry_of, declared_by}
use Rattle.scr_draft.specs.Best.{left_of, left_over}

-- ---- lists
pub each_by : {X : Type 0} (P : X → Type 0) (xs : List X) → ((i : ℕ) (x : X) → slice_get xs i ≡ Some x → P x) → Each P xs
each_by P [] holds = tt
each_by P (x ∷ xs) holds = (holds 0 x refl, each_by P xs (λ i y there. holds (suc i) y there))

each_filter : {X : Type 0} (P : X → Type 0) (test : X → Bool) (xs : List X) → Each P xs → Each (λ x. P x × (test x ≡ true)) (filter test xs)
each_filter P test [] all = tt
each_filter P test (x ∷ xs) all =
    elim (cases_Bool (test x)) [
      | inl passes ↦ subst (Each (λ y. P y × (test y ≡ true))) (sym (cond-true (test x) _ _ passes)) ((all.0, passes), each_filter P test xs all.1)
      | inr misses ↦ subst (Each (λ y. P y × (test y ≡ true))) (sym (cond-false (test x) _ _ misses)) (each_filter P test xs all.1)
    ]

filter_each : {X : Type 0} (P : X → Type 0) (test : X → Bool) (xs : List X) → Each P (filter test xs) → Each (λ x. test x ≡ true → P x) xs
filter_each P test [] all = tt
filter_each P test (x ∷ xs) all =
    elim (cases_Bool (test x)) [
      | inl passes ↦
          let both : Each P (x ∷ filter test xs) = subst (Each P) (cond-true (test x) _ _ passes) all in
          (λ is. both.0, filter_each P test xs both.1)
      | inr misses ↦ (λ is. absurd (true_false (test x) is misses), filter_each P test xs (subst (Each P) (cond-false (test x) _ _ misses) all))
    ]
  where
    true_false : (b : Bool) → b ≡ true → b ≡ false → ⊥
    true_false b is other = cc

flat_same : {X Y : Type 0} (f g : X → List Y) (xs : List X) → Each (λ x. f x ≡ g x) xs → flat_map f xs ≡ flat_map g xs
flat_same f g [] all = refl
flat_same f g (x ∷ xs) all = ap (λ l. l ++ flat_map f xs) all.0 ∙ ap (λ l. g x ++ l) (flat_same f g xs all.1)

append_none : {X : Type 0} (xs ys : List X) → xs ++ ys ≡ [] → (xs ≡ []) × (ys ≡ [])
append_none [] ys none = (refl, none)
append_none (x ∷ xs) ys none = absurd cc

flat_none : {X Y : Type 0} (f : X → List Y) (xs : List X) → flat_map f xs ≡ [] → Each (λ x. f x ≡ []) xs
flat_none f [] none = tt
flat_none f (x ∷ xs) none =
    let both = append_none (f x) (flat_map f xs) none in
    (both.0, flat_none f xs both.1)

none_flat : {X Y : Type 0} (f : X → List Y) (xs : List X) → Each (λ x. f x ≡ []) xs → flat_map f xs ≡ []
none_flat f [] all = refl
none_flat f (x ∷ xs) all = ap (λ l. l ++ flat_map f xs) all.0 ∙ none_flat f xs all.1

-- none passes where the first that passes is none
all_fail : {X : Type 0} (test : X → Bool) (xs : List X) → length xs ≤ position_or_len test xs → Each (λ x. test x ≡ false) xs
all_fail test [] past = tt
all_fail test (x ∷ xs) past =
    elim (cases_Bool (test x)) [
      | inl passes ↦
          let here : position_or_len test (x ∷ xs) ≡ 0 = ap (λ b. cond (not b) (1 + position_or_len test xs) 0) passes in
          absurd (omega arith)
      | inr misses ↦
          let on : position_or_len test (x ∷ xs) ≡ 1 + position_or_len test xs = ap (λ b. cond (not b) (1 + position_or_len test xs) 0) misses in
          (misses, all_fail test xs (omega arith))
    ]

none_passes : {X : Type 0} (test : X → Bool) (xs : List X) → position test xs ≡ None → Each (λ x. test x ≡ false) xs
none_passes test xs none =
    elim (cases_Bool (nat_lt (position_or_len test xs) (length xs))) [
      | inl inside ↦ absurd (none_some (position_or_len test xs) (sym none ∙ cond-true (nat_lt (position_or_len test xs) (length xs)) _ _ inside))
      | inr past ↦ all_fail test xs (ltb-false (position_or_len test xs) (length xs) past)
    ]

-- ---- fields of a picture
-- a field begins at an attribute of these cells
pub record IsField (cells : List Cell) (field : FieldAt) : Type 0 where
  pub q : ℕ
  pub inside : q < length cells
  pub stands : is_attribute (cell_at cells q) ≡ true
  pub is : field ≡ field_at cells q

are_fields : (cells : List Cell) → Each (IsField cells) (fields_of cells)
are_fields cells =
    each_map (IsField cells) (field_at cells) (filter (λ q. is_attribute (cell_at cells q)) (range_with_len 0 (length cells - 0)))
    (each_kept (λ q. IsField cells (field_at cells q)) (λ q. is_attribute (cell_at cells q)) 0 (length cells - 0)
    (λ q below stands. record { q = q; inside = omega arith; stands = stands; is = refl }))

pub place_once : (n q r : ℕ) → q < n → r < n → ring_on n q 1 ≡ ring_on n r 1 → q ≡ r
place_once n q r first second same =
    elim (on_cases n q 1) [
      | inl a ↦ elim (on_cases n r 1) [ inl b ↦ omega arith | inr b ↦ omega arith ]
      | inr a ↦ elim (on_cases n r 1) [ inl b ↦ omega arith | inr b ↦ omega arith ]
    ]

back_again : (n q : ℕ) → q < n → q ≡ ring_back n (ring_on n q 1) 1
back_again n q inside =
    elim (on_cases n q 1) [
      | inl a ↦ elim (back_cases n (ring_on n q 1) 1) [ inl b ↦ omega arith | inr b ↦ omega arith ]
      | inr a ↦ elim (back_cases n (ring_on n q 1) 1) [ inl b ↦ omega arith | inr b ↦ omega arith ]
    ]

-- two fields of one place are the same
field_once : (cells : List Cell) (f g : FieldAt) → IsField cells f → IsField cells g → f.place ≡ g.place → f ≡ g
field_once cells f g one other same =
    let first : f.place ≡ ring_on (length cells) one.q 1 = ap (λ (x : FieldAt). x.place) one.is in
    let second : g.place ≡ ring_on (length cells) other.q 1 = ap (λ (x : FieldAt). x.place) other.is in
    let here : one.q ≡ other.q = place_once (length cells) one.q other.q one.inside other.inside (sym first ∙ same ∙ second) in
    one.is ∙ ap (field_at cells) here ∙ sym other.is

-- it governs cells at its place
field_stands : (cells : List Cell) (f : FieldAt) → IsField cells f → nat_lt 0 f.length ≡ true → has_field cells f.place ≡ true
unfolding has_field
field_stands cells f one some =
    let back : one.q ≡ ring_back (length cells) (ring_on (length cells) one.q 1) 1 = back_again (length cells) one.q one.inside in
    ap (λ (x : FieldAt). has_field cells x.place) one.is
    ∙ ap (λ p. is_attribute (cell_at cells p) && nat_lt 0 (length (span_of cells p))) (sym back)
    ∙ ap (λ b. b && nat_lt 0 (length (span_of cells one.q))) one.stands ∙ ap (λ (x : FieldAt). nat_lt 0 x.length) (sym one.is) ∙ some

-- ---- what a draft declares
abbrev pub IsNamed : List Cell → Named → Type 0
IsNamed cells d = IsField cells d.field × (is_drafted d.field ≡ true)

named_each : (v : Picture) (P : FieldAt → Type 0) (before : List Named) (fields : List FieldAt) → Each (λ d. P d.field) before → Each P fields
    → Each (λ d. P d.field) (drafts_from v before fields)
named_each v P before [] first others = first
named_each v P before (field ∷ fields) first others =
    named_each v P (before ++ named v before field ∷ []) fields (each_append (λ d. P d.field) before (named v before field ∷ []) first (others.0, tt)) others.1

pub are_named : (v : Picture) → Each (IsNamed v.cells) (drafts_of v)
are_named v =
    named_each v (λ f. IsField v.cells f × (is_drafted f ≡ true)) [] (drafted_fields v.cells) tt
    (each_filter (IsField v.cells) is_drafted (fields_of v.cells) (are_fields v.cells))

-- the drafted fields, behind those before them
map_append : {X Y : Type 0} (f : X → Y) (xs : List X) (y : X) (rest : List Y) → map f (xs ++ y ∷ []) ++ rest ≡ map f xs ++ f y ∷ rest
map_append f [] y rest = refl
map_append f (x ∷ xs) y rest = ap (λ l. f x ∷ l) (map_append f xs y rest)

pub drafted_all : (v : Picture) (before : List Named) (fields : List FieldAt) → map (λ d. d.field) (drafts_from v before fields) ≡ map (λ d. d.field) before ++ fields
drafted_all v before [] = sym (append-nil (map (λ d. d.field) before))
drafted_all v before (field ∷ fields) =
    drafted_all v (before ++ named v before field ∷ []) fields ∙ map_append (λ d. d.field) before (named v before field) fields

each_map_of : {X Y : Type 0} (P : Y → Type 0) (f : X → Y) (xs : List X) → Each P (map f xs) → Each (λ x. P (f x)) xs
each_map_of P f [] all = tt
each_map_of P f (x ∷ xs) all = (all.0, each_map_of P f xs all.1)

-- a field at whose place nothing is declared isn't drafted
undrafted : (v : Picture) (f : FieldAt) (i : ℕ) → slice_get (fields_of v.cells) i ≡ Some f → entry_at (declared_by v).entries f.place ≡ None → is_drafted f ≡ false
undrafted v f i there none =
    let others : Each (λ (e : Declared). (f.place == e.place) ≡ false) (map entry_of (drafts_of v)) = none_passes (λ (e : Declared). f.place == e.place) (map entry_of (drafts_of v)) none in
    let named : Each (λ (d : Named). (f.place == d.field.place) ≡ false) (drafts_of v) = each_map_of (λ (e : Declared). (f.place == e.place) ≡ false) entry_of (drafts_of v) others in
    let fields : Each (λ (g : FieldAt). (f.place == g.place) ≡ false) (map (λ d. d.field) (drafts_of v)) = each_map (λ (g : FieldAt). (f.place == g.place) ≡ false) (λ (d : Named). d.field) (drafts_of v) named in
    let drafted : Each (λ (g : FieldAt). (f.place == g.place) ≡ false) (drafted_fields v.cells) = subst (Each (λ (g : FieldAt). (f.place == g.place) ≡ false)) (drafted_all v [] (drafted_fields v.cells)) fields in
    let all = filter_each (λ (g : FieldAt). (f.place == g.place) ≡ false) is_drafted (fields_of v.cells) drafted in
    let here : is_drafted f ≡ true → (f.place == f.place) ≡ false = each_at (λ (g : FieldAt). is_drafted g ≡ true → (f.place == g.place) ≡ false) (fields_of v.cells) i f all there in
    false_from_ne_true (is_drafted f) (λ is. apart (f.place == f.place) (eq-eqb f.place f.place refl) (here is))
  where
    apart : (b : Bool) → b ≡ true → b ≡ false → ⊥
    apart b is other = cc

-- nothing stands against a field that has no entry and isn't drafted
undeclared_none : (v : Picture) (f : FieldAt) → nat_lt 0 f.length ≡ true → is_drafted f ≡ false → undeclared_finding v f ≡ None
undeclared_none v f some misses =
    let neither : (not (is_protected f.attr) || is_modified f.attr) ≡ false = sym (ap (λ b. b && (not (is_protected f.attr) || is_modified f.attr)) some) ∙ misses in
    let both = or_parts (not (is_protected f.attr)) (is_modified f.attr) neither in
    cond-false (not (is_protected f.attr)) _ _ both.0 ∙ cond-false (is_modified f.attr) _ _ both.1

-- nor against one with the entry of a draft
kind_fits : (bits : ℕ) → not (is_of_kind (kind_of bits) bits) ≡ false
kind_fits bits =
    elim (cases_Bool (is_protected bits)) [
      | inl is ↦ ap (λ k. not (is_of_kind k bits)) (cond-true (is_protected bits) _ _ is) ∙ ap not is
      | inr other ↦ ap (λ k. not (is_of_kind k bits)) (cond-false (is_protected bits) _ _ other) ∙ ap (λ b. not (not b)) other
    ]

not_less : (n : ℕ) → nat_lt n n ≡ false
not_less n = le-ltb n n (omega arith)

declared_none : (v : Picture) (f : FieldAt) (index : ℕ) (name : List ℕ) → declared_finding v f index (entry_of (record { name = name; field = f })) ≡ None
declared_none v f index name = cond-false (not (is_of_kind (kind_of f.attr) f.attr)) _ _ (kind_fits f.attr) ∙ cond-false (nat_lt f.length f.length) _ _ (not_less f.length)

declared_here : (v : Picture) (f : FieldAt) (index : ℕ) (d : Named) → IsField v.cells f → IsField v.cells d.field → (f.place == d.field.place) ≡ true
    → declared_finding v f index (entry_of d) ≡ None
declared_here v f index d one other same =
    let is : d.field ≡ f = sym (field_once v.cells f d.field one other (eqb-true f.place d.field.place same)) in
    ap (λ (g : FieldAt). declared_finding v f index (entry_of (record { name = d.name; field = g }))) is ∙ declared_none v f index d.name

-- ---- what stands against a field, and against an entry
abbrev left_finding : FieldAt → Option Finding
left_finding f = cond (f.length == 0) (empty_finding f) None

left_is : (f : FieldAt) → option_to_list (left_finding f) ≡ left_of f
left_is f =
    elim (cases_Bool (f.length == 0)) [
      | inl none ↦ ap option_to_list (cond-true (f.length == 0) _ _ none) ∙ sym (cond-true (f.length == 0) _ _ none)
      | inr some ↦ ap option_to_list (cond-false (f.length == 0) _ _ some) ∙ sym (cond-false (f.length == 0) _ _ some)
    ]

some_cells : (n : ℕ) → (n == 0) ≡ false → nat_lt 0 n ≡ true
some_cells zero none = absurd cc
some_cells (suc n) none = lt-ltb 0 (suc n) (omega arith)

-- the field of an entry
named_there : (v : Picture) (index : ℕ) (entry : Declared) → slice_get (declared_by v).entries index ≡ Some entry
    → (d : Named) × (slice_get (drafts_of v) index ≡ Some d) × (entry ≡ entry_of d)
named_there v index entry there = named_by (slice_get (drafts_of v) index) refl (sym (slice_get-map entry_of (drafts_of v) index) ∙ there)
  where
    named_by : (o : Option Named) → slice_get (drafts_of v) index ≡ o → option_map entry_of o ≡ Some entry
        → (d : Named) × (slice_get (drafts_of v) index ≡ Some d) × (entry ≡ entry_of d)
    named_by None is gives = absurd (none_some entry gives)
    named_by (Some d) is gives = (d, is, sym (some_same (entry_of d) entry gives))

entry_none : (v : Picture) (f : FieldAt) (index : ℕ) (o : Option Declared) → IsField v.cells f → slice_get (declared_by v).entries index ≡ o
    → entry_at (declared_by v).entries f.place ≡ Some index → at_entry v f index o ≡ None
entry_none v f index None one there found = absurd (position_there (λ (e : Declared). f.place == e.place) (declared_by v).entries index found there)
entry_none v f index (Some entry) one there found =
    let d = named_there v index entry there in
    let passes : (f.place == entry.place) ≡ true = position_passes (λ (e : Declared). f.place == e.place) (declared_by v).entries index entry found there in
    let fact : IsNamed v.cells d.0 = each_at (IsNamed v.cells) (drafts_of v) index d.0 (are_named v) d.1 in
    ap (declared_finding v f index) d.2 ∙ declared_here v f index d.0 one fact.0 (sym (ap (λ (e : Declared). f.place == e.place) d.2) ∙ passes)

found_none : (v : Picture) (f : FieldAt) (i : ℕ) (o : Option ℕ) → IsField v.cells f → nat_lt 0 f.length ≡ true → slice_get (fields_of v.cells) i ≡ Some f
    → entry_at (declared_by v).entries f.place ≡ o → entry_finding v f (declared_by v).entries o ≡ None
found_none v f i None one some there at = undeclared_none v f some (undrafted v f i there at)
found_none v f i (Some index) one some there at = entry_none v f index (slice_get (declared_by v).entries index) one refl at

field_left : (v : Picture) (f : FieldAt) (i : ℕ) → slice_get (fields_of v.cells) i ≡ Some f → field_finding (declared_by v).entries v f ≡ left_finding f
unfolding field_finding
field_left v f i there =
    let one : IsField v.cells f = each_at (IsField v.cells) (fields_of v.cells) i f (are_fields v.cells) there in
    elim (cases_Bool (f.length == 0)) [
      | inl none ↦ cond-true (f.length == 0) _ _ none ∙ sym (cond-true (f.length == 0) _ _ none)
      | inr some ↦
          cond-false (f.length == 0) _ _ some
          ∙ found_none v f i (entry_at (declared_by v).entries f.place) one (some_cells f.length some) there refl
          ∙ sym (cond-false (f.length == 0) _ _ some)
    ]

none_missing : (cells : List Cell) (i : ℕ) (ds : List Named) → Each (IsNamed cells) ds → missing_from cells i (map entry_of ds) ≡ []
none_missing cells i [] all = refl
none_missing cells i (d ∷ ds) all =
    let some : nat_lt 0 d.field.length ≡ true = (and_parts (nat_lt 0 d.field.length) _ all.0.1).0 in
    let stands : has_field cells d.field.place ≡ true = field_stands cells d.field all.0.0 some in
    ap (λ o. option_to_list o ++ missing_from cells (i + 1) (map entry_of ds)) (cond-true (has_field cells d.field.place) None (Some (Missing i)) stands)
    ∙ none_missing cells (i + 1) ds all.1

pub draft_left : (v : Picture) → findings_of (declared_by v) v ≡ left_over v
unfolding findings_of
draft_left v =
    let fields : flat_map (λ f. option_to_list (field_finding (declared_by v).entries v f)) (fields_of v.cells) ≡ left_over v =
    flat_same (λ f. option_to_list (field_finding (declared_by v).entries v f)) left_of (fields_of v.cells)
    (each_by (λ f. option_to_list (field_finding (declared_by v).entries v f) ≡ left_of f) (fields_of v.cells)
    (λ i f there. ap option_to_list (field_left v f i there) ∙ left_is f)) in
    ap (λ l. l ++ missing_from v.cells 0 (declared_by v).entries) fields
    ∙ ap (λ l. left_over v ++ l) (none_missing v.cells 0 (drafts_of v) (are_named v)) ∙ append-nil (left_over v)

-- it is found against every layout
left_none : (entries : List Declared) (v : Picture) (f : FieldAt) → option_to_list (field_finding entries v f) ≡ [] → left_of f ≡ []
unfolding field_finding
left_none entries v f none =
    elim (cases_Bool (f.length == 0)) [
      | inl is ↦
          cond-true (f.length == 0) _ _ is ∙ ap option_to_list (sym (cond-true (f.length == 0) (empty_finding f) (entry_finding v f entries (entry_at entries f.place)) is)) ∙ none
      | inr some ↦ cond-false (f.length == 0) _ _ some
    ]

pub all_left : (layout : Declaration) (v : Picture) → findings_of layout v ≡ [] → left_over v ≡ []
unfolding findings_of
all_left layout v none =
    let both = append_none (flat_map (λ f. option_to_list (field_finding layout.entries v f)) (fields_of v.cells)) (missing_from v.cells 0 layout.entries) none in
    let each = flat_none (λ f. option_to_list (field_finding layout.entries v f)) (fields_of v.cells) both.0 in
    none_flat left_of (fields_of v.cells)
    (each_by (λ f. left_of f ≡ []) (fields_of v.cells)
    (λ i f there. left_none layout.entries v f (each_at (λ g. option_to_list (field_finding layout.entries v g) ≡ []) (fields_of v.cells) i f each there)))
