-- A touched field of a picture against which nothing stands is declared.
use Rattle.std.proofs.Common.{◌≡◌, ◌≢◌, ℕ, ◌-◌, ◌<◌, ◌≤◌, ◌⊎◌, ◌&&◌, true, false, not, eqb, List, [], ◌∷◌, ◌++◌, length, map, Option, Some, None, refl, sym, ◌∙◌, ap, arith, inl, inr}
use Rattle.std.specs.Prelude.{slice_get}
use Rattle.std.specs.List.{range_with_len, filter}
use Rattle.std.proofs.lemmas.Bool.{eqb-true, cond-true, cond-false, cases_Bool, cases_lt, cases_eq, false≢true, and_parts, not-true, eq-eqb, ne_eqb, lt-ltb}
use Rattle.ds_codec.specs.declared.cell.Cell.{Cell}
use Rattle.ds_codec.specs.Attribute.{is_protected, is_modified}
use Rattle.ds_screen.specs.declared.field.FieldAt.{FieldAt}
use Rattle.ds_screen.specs.Ring.{ring_on, ring_distance}
use Rattle.ds_screen.specs.Picture.{Picture, IsSound, cell_at}
use Rattle.ds_screen.specs.Fields.{is_attribute, is_character, bits_of, is_at, attribute_before, governs, span_of, field_at, attributes_from}
use Rattle.ds_screen.proofs.RingLaws.{distance_cases}
use Rattle.ds_screen.proofs.RuledLaws.{on_distance}
use Rattle.ds_keys.specs.declared.key.Key.{Key}
use Rattle.ds_keys.specs.KeyRuns as keyed
use Rattle.ds_keys.specs.Touched.{edits, IsEdited, is_edit}
use Rattle.ds_keys.specs.Laws.{Keeps}
use Rattle.ds_keys.proofs.CellLaws.{same_governs, same_protection}
use Rattle.ds_keys.proofs.KeepLaws.{quiet_keys_keep}
use Rattle.ds_keys.proofs.TouchLaws.{edited_unprotected}
use Rattle.ds_keys.proofs.SoundLaws.{keys_stay_sound}
use Rattle.ds_inbound.specs.Answer.{field_sent, characters_at, character_of, is_null}
use Rattle.scr_layout.specs.declared.entry.Kind.TheVariants.{Fixed}
use Rattle.scr_layout.specs.Entry.{Declared}
use Rattle.scr_layout.specs.Layout.{Declaration}
use Rattle.scr_check.specs.Findings.{entry_at, is_of_kind, empty_finding, undeclared_finding, declared_finding, at_entry, entry_finding, field_finding, findings_of}
use Rattle.scr_check.specs.Promise.{is_among, IsDeclaredField}
use Rattle.scr_check.proofs.ListLaws.{position_passes}
use Rattle.scr_check.proofs.KeptLaws.{attribute_inside, same_span}
use Rattle.scr_check.proofs.Among.{among_filter, among_range, none_found, append_none, filter_shorter, map_length, map_kept, nothing_kept}

-- ---- keys before an edit

quiet_front : (v : Picture) (early : List Key) (key : Key) (late : List Key) → keyed.IsQuiet v (early ++ key ∷ late) → keyed.IsQuiet v early
unfolding keyed.is_quiet
quiet_front v [] key late quiet = refl
quiet_front v (first ∷ early) key late quiet =
    let parts = and_parts (not (keyed.is_sent (keyed.answer_of v first))) (keyed.is_quiet (keyed.after_key v first) (early ++ key ∷ late)) quiet in
    ap (λ t. t && keyed.is_quiet (keyed.after_key v first) early) parts.0 ∙ quiet_front (keyed.after_key v first) early key late parts.1

-- ---- a span that holds a position

governs_apart : (cells : List Cell) (q p : ℕ) → is_attribute (cell_at cells q) ≡ true → governs cells q p ≡ true → p ≢ q
governs_apart cells q p there rules same =
    let character = not-true (is_attribute (cell_at cells p)) (and_parts (is_character (cell_at cells p)) (is_at (attribute_before cells p) q) rules).0 in
    false≢true (sym character ∙ ap (λ z. is_attribute (cell_at cells z)) same ∙ there)

distance_some : (n q p : ℕ) → q < n → p < n → p ≢ q → (1 ≤ ring_distance n q p) × (ring_distance n q p < n)
distance_some n q p lt inside apart =
    elim (distance_cases n q p) [
      | inl a ↦ (elim (cases_eq p q) [ inl same ↦ absurd (apart same) | inr other ↦ omega arith ], omega arith)
      | inr a ↦ (omega arith, omega arith)
    ]

pub spans_something : (cells : List Cell) (q p : ℕ) → q < length cells → p < length cells → is_attribute (cell_at cells q) ≡ true → governs cells q p ≡ true
    → length (span_of cells q) ≡ 0 → ⊥
unfolding span_of
spans_something cells q p lt inside there rules none =
    let n : ℕ = length cells in
    let some = distance_some n q p lt inside (governs_apart cells q p there rules) in
    let d : ℕ = ring_distance n q p in
    let empty : governs cells q (ring_on n q d) ≡ false = nothing_kept (governs cells q) (ring_on n q) 1 (n - 1) d some.0 (omega (arith, some.1)) none in
    false≢true (sym empty ∙ ap (governs cells q) (on_distance n q p lt inside) ∙ rules)

-- ---- what an edit shows of the field that it edits

pub record EditShows (cells : List Cell) (q : ℕ) : Type 0 where
  pub governs_some : length (span_of cells q) ≡ 0 → ⊥
  pub unprotected : is_protected (bits_of (cell_at cells q)) ≡ false

edit_governs : (v : Picture) (key : Key) (q : ℕ) → edits v key q ≡ true → governs v.cells q v.cursor ≡ true
edit_governs v key q is =
    (and_parts (keyed.is_accepted (keyed.answer_of v key)) (governs v.cells q v.cursor)
    (and_parts (is_edit key) (keyed.is_accepted (keyed.answer_of v key) && governs v.cells q v.cursor) is).1).1

cursor_inside : (v : Picture) → IsSound v → v.cursor < length v.cells
cursor_inside v sound = omega (arith, sound.whole, sound.cursor_inside)

pub edit_shows : (v : Picture) (keys : List Key) (q : ℕ) → IsSound v → keyed.IsQuiet v keys → is_attribute (cell_at v.cells q) ≡ true → IsEdited v keys q → EditShows v.cells q
edit_shows v keys q sound quiet there ed =
    let front : keyed.IsQuiet v ed.early = quiet_front v ed.early ed.key ed.late (ap (keyed.is_quiet v) (sym ed.parts) ∙ quiet) in
    let middle : Picture = keyed.after v ed.early in
    let k : Keeps v.cells middle.cells = quiet_keys_keep v ed.early front in
    let rules : governs v.cells q middle.cursor ≡ true = sym (same_governs v.cells middle.cells q middle.cursor k) ∙ edit_governs middle ed.key q ed.edited in
    let inside : middle.cursor < length v.cells = omega (arith, k.whole, cursor_inside middle (keys_stay_sound v ed.early sound)) in
    record {
      governs_some = spans_something v.cells q middle.cursor (attribute_inside v.cells q there) inside there rules;
      unprotected = sym (same_protection v.cells middle.cells q k) ∙ edited_unprotected middle ed.key q ed.edited;
    }

-- ---- what it is that nothing stands against a field

-- the field has an entry of its kind that declares no fewer cells
pub record HasEntry (entries : List Declared) (field : FieldAt) : Type 0 where
  pub index : ℕ
  pub entry : Declared
  pub here : entry_at entries field.place ≡ Some index
  pub declared : slice_get entries index ≡ Some entry
  pub kind : is_of_kind entry.kind field.attr ≡ true
  pub short : field.length ≤ entry.length

abbrev pub IsGood : List Declared → FieldAt → Type 0
IsGood entries field = HasEntry entries field ⊎ ((is_protected field.attr ≡ true) × (is_modified field.attr ≡ false))

undeclared_good : (entries : List Declared) (v : Picture) (field : FieldAt) → undeclared_finding v field ≡ None → IsGood entries field
undeclared_good entries v field none =
    elim (cases_Bool (is_protected field.attr)) [
      | inl shut ↦
          elim (cases_Bool (is_modified field.attr)) [
            | inl is ↦ absurd cc
            | inr not ↦ inr (shut, not)
          ]
      | inr opens ↦ absurd cc
    ]

declared_good : (entries : List Declared) (v : Picture) (field : FieldAt) (index : ℕ) (entry : Declared) → entry_at entries field.place ≡ Some index
    → slice_get entries index ≡ Some entry → declared_finding v field index entry ≡ None → IsGood entries field
declared_good entries v field index entry here declared none =
    elim (cases_Bool (is_of_kind entry.kind field.attr)) [
      | inl kind ↦
          elim (cases_lt entry.length field.length) [
            | inl less ↦ let e = lt-ltb entry.length field.length less in absurd cc
            | inr enough ↦ inl (record { index = index; entry = entry; here = here; declared = declared; kind = kind; short = enough })
          ]
      | inr other ↦ absurd cc
    ]

indexed_good : (entries : List Declared) (v : Picture) (field : FieldAt) (index : ℕ) (o : Option Declared) → entry_at entries field.place ≡ Some index
    → slice_get entries index ≡ o → at_entry v field index o ≡ None → IsGood entries field
indexed_good entries v field index None here declared none = undeclared_good entries v field none
indexed_good entries v field index (Some entry) here declared none = declared_good entries v field index entry here declared none

placed_good : (entries : List Declared) (v : Picture) (field : FieldAt) (o : Option ℕ) → entry_at entries field.place ≡ o
    → entry_finding v field entries o ≡ None → IsGood entries field
placed_good entries v field None here none = undeclared_good entries v field none
placed_good entries v field (Some index) here none = indexed_good entries v field index (slice_get entries index) here refl none

pub field_good : (entries : List Declared) (v : Picture) (field : FieldAt) → (field.length ≡ 0 → ⊥) → field_finding entries v field ≡ None → IsGood entries field
unfolding field_finding
field_good entries v field some none =
    placed_good entries v field (entry_at entries field.place) refl (sym (cond-false (eqb field.length 0) _ _ (ne_eqb field.length 0 some)) ∙ none)

empty_good : (field : FieldAt) → empty_finding field ≡ None → is_modified field.attr ≡ false
empty_good field none = elim (cases_Bool (is_modified field.attr)) [ inl is ↦ absurd cc | inr not ↦ not ]

pub field_empty : (entries : List Declared) (v : Picture) (field : FieldAt) → field.length ≡ 0 → field_finding entries v field ≡ None → is_modified field.attr ≡ false
unfolding field_finding
field_empty entries v field empty none = empty_good field (sym (cond-true (eqb field.length 0) _ _ (eq-eqb field.length 0 empty)) ∙ none)

-- nothing stands against the field of an attribute
pub field_clean : (layout : Declaration) (v : Picture) (q : ℕ) → findings_of layout v ≡ [] → is_attribute (cell_at v.cells q) ≡ true
    → field_finding layout.entries v (field_at v.cells q) ≡ None
unfolding findings_of
field_clean layout v q clean there =
    let n : ℕ = length v.cells in
    let lt : q < n = attribute_inside v.cells q there in
    let among : is_among (attributes_from v.cells 0) q ≡ true =
    among_filter (λ p. is_attribute (cell_at v.cells p)) (range_with_len 0 (n - 0)) q
    ∙ ap (λ t. t && is_among (range_with_len 0 (n - 0)) q) there ∙ among_range 0 (n - 0) q (omega arith) (omega arith) in
    none_found (field_finding layout.entries v) (field_at v.cells) (attributes_from v.cells 0) q among (append_none _ _ clean)

-- ---- its characters

characters_few : (cells : List Cell) (q : ℕ) → length (field_sent cells q).characters ≤ length (span_of cells q)
unfolding field_sent characters_at
characters_few cells q =
    let a = filter_shorter (λ c. not (is_null c)) (map (λ p. character_of (cell_at cells p)) (span_of cells q)) in
    let b = map_length (λ p. character_of (cell_at cells p)) (span_of cells q) in
    omega (arith, a, b)

span_characters : (before after : List Cell) (q : ℕ) → ((p : ℕ) → governs before q p ≡ true → cell_at after p ≡ cell_at before p)
    → map (λ p. character_of (cell_at after p)) (span_of before q) ≡ map (λ p. character_of (cell_at before p)) (span_of before q)
unfolding span_of
span_characters before after q same =
    map_kept (λ p. character_of (cell_at after p)) (λ p. character_of (cell_at before p)) (governs before q) (map (ring_on (length before) q) (range_with_len 1 (length before - 1)))
    (λ p rules. ap character_of (same p rules))

characters_stay : (before after : List Cell) (q : ℕ) → Keeps before after → ((p : ℕ) → governs before q p ≡ true → cell_at after p ≡ cell_at before p)
    → (field_sent after q).characters ≡ (field_sent before q).characters
unfolding field_sent characters_at
characters_stay before after q k same =
    ap (λ ps. filter (λ c. not (is_null c)) (map (λ p. character_of (cell_at after p)) ps)) (same_span before after q k)
    ∙ ap (filter (λ c. not (is_null c))) (span_characters before after q same)

sent_place : (before after : List Cell) (q : ℕ) → length after ≡ length before → (field_sent after q).place ≡ ring_on (length before) q 1
unfolding field_sent
sent_place before after q whole = ap (λ n. ring_on n q 1) whole

fixed_shut : (bits : ℕ) (entry : Declared) → entry.kind ≡ Fixed → is_of_kind entry.kind bits ≡ true → is_protected bits ≡ true
fixed_shut bits entry kind is = ap (λ k. is_of_kind k bits) (sym kind) ∙ is

pub declared_field : (entries : List Declared) (before after : List Cell) (q : ℕ) → Keeps before after
    → ((q p : ℕ) → governs before q p ≡ true → is_protected (bits_of (cell_at before q)) ≡ true → cell_at after p ≡ cell_at before p)
    → HasEntry entries (field_at before q) → IsDeclaredField entries before after q
declared_field entries before after q k same has =
    record {
      index = has.index;
      entry = has.entry;
      here = ap (entry_at entries) (sent_place before after q k.whole) ∙ has.here;
      declared = has.declared;
      place = sent_place before after q k.whole ∙ eqb-true (ring_on (length before) q 1) has.entry.place (position_passes (λ entry. eqb (ring_on (length before) q 1) entry.place) entries has.index has.entry has.here has.declared);
      short = omega (arith, characters_few after q, ap length (same_span before after q k), has.short);
      fixed = λ kind. characters_stay before after q k (λ p rules. same q p rules (fixed_shut (bits_of (cell_at before q)) has.entry kind has.kind));
    }
