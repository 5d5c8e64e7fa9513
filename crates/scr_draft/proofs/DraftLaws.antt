-- What a draft declares is a layout: its names are lawful and distinct, and so are its places.
use Rattle.std.proofs.Common.{◌≡◌, ℕ, zero, suc, ◌+◌, ◌-◌, ◌*◌, ◌/◌, ◌%◌, ◌<◌, ◌≤◌, inl, inr, Bool, true, false, nat_eq, nat_lt, bytes_eq, IsTrue, List, [], ◌∷◌, ◌++◌, length, length-append, map, All, refl, sym, ◌∙◌, ap, subst, arith}
use Rattle.std.specs.List.{range_with_len, filter, AllByRecursion, IsDistinct}
use Rattle.std.proofs.lemmas.Bool.{cond-true, cond-false, cases_Bool, and_parts, ltb-true, ne_eqb}
use Rattle.std.proofs.lemmas.Cmp.{nat_list_eq_equiv}
use Rattle.std.proofs.lemmas.List.{length-map, map-append}
use Rattle.std.proofs.lemmas.List.Elements.{All-nil, All-cons}
use Rattle.std.proofs.lemmas.List.FromFn.{length-range_with_len}
use Rattle.std.proofs.lemmas.Map.Keys.{IsDistinct-push}
use Rattle.std.proofs.lemmas.Nat.{div_below}
use Rattle.ds_codec.specs.declared.cell.Cell.{Cell}
use Rattle.ds_codec.specs.Geometry.{cells_of, IsGood}
use Rattle.ds_screen.specs.declared.field.FieldAt.{FieldAt}
use Rattle.ds_screen.specs.Ring.{ring_on}
use Rattle.ds_screen.specs.Picture.{Picture, IsSound, cell_at}
use Rattle.ds_screen.specs.Fields.{is_attribute, governs, span_of, field_at, fields_of}
use Rattle.ds_screen.proofs.RingLaws.{on_cases}
use Rattle.scr_layout.specs.Entry.{Declared, is_name}
use Rattle.scr_layout.specs.Layout.{IsLayout}
use Rattle.scr_check.proofs.ListLaws.{Each, each_append, each_map}
use Rattle.scr_draft.specs.Name.{form, free_number}
use Rattle.scr_draft.specs.Drafted.{is_drafted, drafted_fields, Named, names_in, label_before, named, drafts_from, drafts_of, entry_of, declared_by}
use Rattle.scr_draft.proofs.NameLaws.{form_free, form_named}
use Rattle.scr_draft.proofs.BestLaw.{IsField, IsNamed, are_named, place_once, drafted_all}

-- ---- lists
pub all_each : {X : Type 0} (P : X → Type 0) (xs : List X) → Each P xs → All P xs
all_each P [] each = All-nil P
all_each P (x ∷ xs) each = All-cons P x xs each.0 (all_each P xs each.1)

pub each_weaker : {X : Type 0} (P Q : X → Type 0) (xs : List X) → ((x : X) → P x → Q x) → Each P xs → Each Q xs
each_weaker P Q [] weaker each = tt
each_weaker P Q (x ∷ xs) weaker each = (weaker x each.0, each_weaker P Q xs weaker each.1)

few_kept : {X : Type 0} (test : X → Bool) (xs : List X) → length (filter test xs) ≤ length xs
few_kept test [] = omega arith
few_kept test (x ∷ xs) =
    elim (cases_Bool (test x)) [
      | inl passes ↦
          let e : length (filter test (x ∷ xs)) ≡ suc (length (filter test xs)) = ap length (cond-true (test x) (x ∷ filter test xs) (filter test xs) passes) in
          omega (arith, e, few_kept test xs)
      | inr misses ↦
          let e : length (filter test (x ∷ xs)) ≡ length (filter test xs) = ap length (cond-false (test x) (x ∷ filter test xs) (filter test xs) misses) in
          omega (arith, e, few_kept test xs)
    ]

-- ---- a field's place, and how long it is
place_inside : (cells : List Cell) (f : FieldAt) → IsField cells f → f.place < length cells
place_inside cells f one =
    let is : f.place ≡ ring_on (length cells) one.q 1 = ap (λ (x : FieldAt). x.place) one.is in
    elim (on_cases (length cells) one.q 1) [
      | inl a ↦ omega (arith, is, a, one.inside)
      | inr a ↦ omega (arith, is, a, one.inside)
    ]

short_span : (cells : List Cell) (f : FieldAt) → IsField cells f → f.length < length cells
unfolding span_of
short_span cells f one =
    let is : f.length ≡ length (span_of cells one.q) = ap (λ (x : FieldAt). x.length) one.is in
    let places = map (ring_on (length cells) one.q) (range_with_len 1 (length cells - 1)) in
    let few : length (filter (governs cells one.q) places) ≤ length places = few_kept (governs cells one.q) places in
    let count : length places ≡ length cells - 1 = length-map (range_with_len 1 (length cells - 1)) (ring_on (length cells) one.q) ∙ length-range_with_len 1 (length cells - 1) in
    omega (arith, is, few, count, one.inside)

-- ---- places differ
-- fields whose attributes stand at rising positions, from one on
RisesAt : List Cell → ℕ → List FieldAt → Type 0
RisesAt cells low [] = Unit {0}
RisesAt cells low (f ∷ fs) = (q : ℕ) × (low ≤ q) × (q < length cells) × (f ≡ field_at cells q) × RisesAt cells (q + 1) fs

rises_from : (cells : List Cell) (low high : ℕ) (fs : List FieldAt) → low ≤ high → RisesAt cells high fs → RisesAt cells low fs
unfolding RisesAt
rises_from cells low high [] le rises = tt
rises_from cells low high (f ∷ fs) le (q, from, inside, is, others) = (q, omega arith, inside, is, others)

rises_range : (cells : List Cell) (p k : ℕ) → p + k ≤ length cells → RisesAt cells p (map (field_at cells) (filter (λ q. is_attribute (cell_at cells q)) (range_with_len p k)))
unfolding RisesAt
rises_range cells p zero le = tt
rises_range cells p (suc k) le =
    let others = rises_range cells (p + 1) k (omega arith) in
    let kept = filter (λ q. is_attribute (cell_at cells q)) (range_with_len (p + 1) k) in
    elim (cases_Bool (is_attribute (cell_at cells p))) [
      | inl stands ↦
          let here : RisesAt cells p (map (field_at cells) (p ∷ kept)) = (p, omega arith, omega arith, refl, others) in
          subst (λ l. RisesAt cells p (map (field_at cells) l)) (sym (cond-true (is_attribute (cell_at cells p)) (p ∷ kept) kept stands)) here
      | inr none ↦
          subst (λ l. RisesAt cells p (map (field_at cells) l)) (sym (cond-false (is_attribute (cell_at cells p)) (p ∷ kept) kept none))
          (rises_from cells p (p + 1) (map (field_at cells) kept) (omega arith) others)
    ]

rises_kept : (cells : List Cell) (test : FieldAt → Bool) (low : ℕ) (fs : List FieldAt) → RisesAt cells low fs → RisesAt cells low (filter test fs)
unfolding RisesAt
rises_kept cells test low [] rises = tt
rises_kept cells test low (f ∷ fs) (q, from, inside, is, others) =
    let more = rises_kept cells test (q + 1) fs others in
    elim (cases_Bool (test f)) [
      | inl passes ↦
          let here : RisesAt cells low (f ∷ filter test fs) = (q, from, inside, is, more) in
          subst (RisesAt cells low) (sym (cond-true (test f) (f ∷ filter test fs) (filter test fs) passes)) here
      | inr misses ↦
          subst (RisesAt cells low) (sym (cond-false (test f) (f ∷ filter test fs) (filter test fs) misses)) (rises_from cells low (q + 1) (filter test fs) (omega arith) more)
    ]

apart_from : (cells : List Cell) (r low : ℕ) (fs : List FieldAt) → r < low → r < length cells → RisesAt cells low fs
    → AllByRecursion (λ place. nat_eq (ring_on (length cells) r 1) place ≡ false) (map (λ (f : FieldAt). f.place) fs)
unfolding RisesAt
apart_from cells r low [] below inside rises = tt
apart_from cells r low (f ∷ fs) below inside (q, from, high, is, others) =
    let place : f.place ≡ ring_on (length cells) q 1 = ap (λ (x : FieldAt). x.place) is in (
      ne_eqb (ring_on (length cells) r 1) f.place (λ same. (let e = place_once (length cells) r q inside high (same ∙ place) in omega arith)),
      apart_from cells r (q + 1) fs (omega arith) inside others,
    )

places_differ : (cells : List Cell) (low : ℕ) (fs : List FieldAt) → RisesAt cells low fs → IsDistinct nat_eq (map (λ (f : FieldAt). f.place) fs)
unfolding RisesAt IsDistinct
places_differ cells low [] rises = tt
places_differ cells low (f ∷ fs) (q, from, high, is, others) =
    let place : ring_on (length cells) q 1 ≡ f.place = sym (ap (λ (x : FieldAt). x.place) is) in
    let P : ℕ → Type 0 = λ p. AllByRecursion (λ other. nat_eq p other ≡ false) (map (λ (g : FieldAt). g.place) fs) in
    (subst P place (apart_from cells q (q + 1) fs (omega arith) high others), places_differ cells (q + 1) fs others)

map_twice : {X Y Z : Type 0} (f : Y → Z) (g : X → Y) (xs : List X) → map f (map g xs) ≡ map (λ x. f (g x)) xs
map_twice f g [] = refl
map_twice f g (x ∷ xs) = ap (λ l. f (g x) ∷ l) (map_twice f g xs)

draft_places : (v : Picture) → IsDistinct nat_eq (map (λ (e : Declared). e.place) (map entry_of (drafts_of v)))
draft_places v =
    let rises = rises_kept v.cells is_drafted 0 (fields_of v.cells) (rises_range v.cells 0 (length v.cells - 0) (omega arith)) in
    let differ = places_differ v.cells 0 (drafted_fields v.cells) rises in
    let fields : map (λ (d : Named). d.field) (drafts_of v) ≡ drafted_fields v.cells = drafted_all v [] (drafted_fields v.cells) in
    let same : map (λ (f : FieldAt). f.place) (map (λ (d : Named). d.field) (drafts_of v)) ≡ map (λ (e : Declared). e.place) (map entry_of (drafts_of v)) =
    map_twice (λ (f : FieldAt). f.place) (λ (d : Named). d.field) (drafts_of v) ∙ sym (map_twice (λ (e : Declared). e.place) entry_of (drafts_of v)) in
    subst (IsDistinct nat_eq) same (subst (λ fs. IsDistinct nat_eq (map (λ (f : FieldAt). f.place) fs)) (sym fields) differ)

-- ---- names
names_more : (before : List Named) (d : Named) → names_in (before ++ d ∷ []) ≡ names_in before ++ d.name ∷ []
names_more before d = map-append (λ (x : Named). x.name) before (d ∷ [])

names_differ : (v : Picture) (before : List Named) (fields : List FieldAt) → length before + length fields ≤ 65536 → IsDistinct bytes_eq (names_in before)
    → IsDistinct bytes_eq (names_in (drafts_from v before fields))
names_differ v before [] few differ = differ
names_differ v before (f ∷ fs) few differ =
    let d = named v before f in
    let count : length (names_in before) ≡ length before = length-map before (λ (x : Named). x.name) in
    let free = (form_free (names_in before) v.size.cols f.place (label_before v f) (omega (arith, count))).0.free in
    let more : IsDistinct bytes_eq (names_in before ++ d.name ∷ []) = IsDistinct-push nat_list_eq_equiv (names_in before) d.name differ free in
    names_differ v (before ++ d ∷ []) fs (omega (arith, length-append before (d ∷ []))) (subst (IsDistinct bytes_eq) (sym (names_more before d)) more)

-- a field on a screen of at most 255 rows and columns
record IsOnScreen (v : Picture) (f : FieldAt) : Type 0 where
  row : f.place / v.size.cols < v.size.rows
  col : f.place % v.size.cols < v.size.cols

names_lawful : (v : Picture) (before : List Named) (fields : List FieldAt) → v.size.rows ≤ 255 → v.size.cols ≤ 255 → length before + length fields ≤ 1000
    → Each (λ (d : Named). is_name d.name ≡ true) before → Each (IsOnScreen v) fields → Each (λ (d : Named). is_name d.name ≡ true) (drafts_from v before fields)
names_lawful v before [] rows cols few lawful on = lawful
names_lawful v before (f ∷ fs) rows cols few lawful on =
    let d = named v before f in
    let label = label_before v f in
    let count : length (names_in before) ≡ length before = length-map before (λ (x : Named). x.name) in
    let within = (form_free (names_in before) v.size.cols f.place label (omega (arith, count))).1 in
    let one : is_name d.name ≡ true =
    form_named v.size.cols f.place label (free_number (names_in before) (form v.size.cols f.place label)) (omega (arith, within, count)) (omega (arith, on.0.row)) (omega (arith, on.0.col)) in
    names_lawful v (before ++ d ∷ []) fs rows cols (omega (arith, length-append before (d ∷ []))) (each_append (λ (x : Named). is_name x.name ≡ true) before (d ∷ []) lawful (one, tt)) on.1

-- ---- the layout
pub good_size : (v : Picture) → IsSound v → IsGood v.geometry.mode v.size
good_size v sound =
    elim sound.one_of_two [
      | inl is ↦ subst (IsGood v.geometry.mode) (sym is) sound.default_good
      | inr is ↦ subst (IsGood v.geometry.mode) (sym is) sound.alternate_good
    ]

on_screen : (v : Picture) → IsSound v → (f : FieldAt) → IsField v.cells f → IsOnScreen v f
on_screen v sound f one =
    let good = good_size v sound in
    let inside : f.place < v.size.rows * v.size.cols = omega (arith, place_inside v.cells f one, sound.whole) in
    record { row = div_below f.place v.size.cols v.size.rows (omega (arith, good.two_cols)) inside; col = (let some : 0 < v.size.cols = omega (arith, good.two_cols) in omega arith) }

pub fields_count : (v : Picture) → length (drafts_of v) ≡ length (drafted_fields v.cells)
fields_count v = sym (length-map (drafts_of v) (λ (d : Named). d.field)) ∙ ap length (drafted_all v [] (drafted_fields v.cells))

-- what is known of each of a draft's fields
pub record IsDeclared (v : Picture) (d : Named) : Type 0 where
  pub name : is_name d.name ≡ true
  pub inside : d.field.place < cells_of v.size
  pub row : d.field.place / v.size.cols < v.size.rows
  pub col : d.field.place % v.size.cols < v.size.cols
  pub some : 1 ≤ d.field.length
  pub short : d.field.length < cells_of v.size

each_both : {X : Type 0} (P Q : X → Type 0) (xs : List X) → Each P xs → Each Q xs → Each (λ x. P x × Q x) xs
each_both P Q [] one other = tt
each_both P Q (x ∷ xs) one other = ((one.0, other.0), each_both P Q xs one.1 other.1)

field_of_each : (P : FieldAt → Type 0) (ds : List Named) → Each (λ (d : Named). P d.field) ds → Each P (map (λ (d : Named). d.field) ds)
field_of_each P ds each = each_map P (λ (d : Named). d.field) ds each

pub are_declared : (v : Picture) → IsSound v → length (drafted_fields v.cells) ≤ 1000 → Each (IsDeclared v) (drafts_of v)
are_declared v sound few =
    let good = good_size v sound in
    let fields : Each (IsNamed v.cells) (drafts_of v) = are_named v in
    let on : Each (IsOnScreen v) (drafted_fields v.cells) =
    subst (Each (IsOnScreen v)) (drafted_all v [] (drafted_fields v.cells))
    (field_of_each (IsOnScreen v) (drafts_of v) (each_weaker (IsNamed v.cells) (λ (d : Named). IsOnScreen v d.field) (drafts_of v) (λ d is. on_screen v sound d.field is.0) fields)) in
    let lawful = names_lawful v [] (drafted_fields v.cells) good.few_rows good.few_cols (omega arith) tt on in
    each_weaker (λ (d : Named). (is_name d.name ≡ true) × IsNamed v.cells d) (IsDeclared v) (drafts_of v) (λ d is. one d is.0 is.1)
    (each_both (λ (d : Named). is_name d.name ≡ true) (IsNamed v.cells) (drafts_of v) lawful fields)
  where
    one : (d : Named) → is_name d.name ≡ true → IsNamed v.cells d → IsDeclared v d
    one d name is =
        let on = on_screen v sound d.field is.0 in
        record {
          name = name;
          inside = omega (arith, place_inside v.cells d.field is.0, sound.whole);
          row = on.row;
          col = on.col;
          some = (let less : 0 < d.field.length = ltb-true 0 d.field.length (and_parts (nat_lt 0 d.field.length) _ is.1).0 in omega arith);
          short = omega (arith, short_span v.cells d.field is.0, sound.whole);
        }

pub draft_names : (v : Picture) → length (drafted_fields v.cells) ≤ 1000 → IsDistinct bytes_eq (names_in (drafts_of v))
unfolding IsDistinct
draft_names v few = names_differ v [] (drafted_fields v.cells) (omega arith) tt

pub draft_is_layout : (v : Picture) → IsSound v → length (drafted_fields v.cells) ≤ 1000 → IsLayout (declared_by v)
draft_is_layout v sound few =
    let each = are_declared v sound few in
    let names : map (λ (e : Declared). e.name) (map entry_of (drafts_of v)) ≡ names_in (drafts_of v) = map_twice (λ (e : Declared). e.name) entry_of (drafts_of v) in
    record {
      default = sound.default_good;
      alternate = sound.alternate_good;
      screen = sound.one_of_two;
      named = all_each (λ (e : Declared). IsTrue (is_name e.name)) (map entry_of (drafts_of v))
          (each_map (λ (e : Declared). IsTrue (is_name e.name)) entry_of (drafts_of v) (each_weaker (IsDeclared v) (λ (d : Named). IsTrue (is_name d.name)) (drafts_of v) (λ d is. is.name) each));
      inside = all_each (λ (e : Declared). e.place < cells_of v.size) (map entry_of (drafts_of v))
          (each_map (λ (e : Declared). e.place < cells_of v.size) entry_of (drafts_of v) (each_weaker (IsDeclared v) (λ (d : Named). d.field.place < cells_of v.size) (drafts_of v) (λ d is. is.inside) each));
      long = all_each (λ (e : Declared). (1 ≤ e.length) × (e.length < cells_of v.size)) (map entry_of (drafts_of v))
          (each_map (λ (e : Declared). (1 ≤ e.length) × (e.length < cells_of v.size)) entry_of (drafts_of v)
          (each_weaker (IsDeclared v) (λ (d : Named). (1 ≤ d.field.length) × (d.field.length < cells_of v.size)) (drafts_of v) (λ d is. (is.some, is.short)) each));
      names = subst (IsDistinct bytes_eq) (sym names) (draft_names v few);
      places = draft_places v;
      few = omega (arith, few, fields_count v, length-map (drafts_of v) entry_of);
    }
