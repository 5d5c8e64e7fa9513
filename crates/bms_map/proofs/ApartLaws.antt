-- The fields of a map stand apart: no two attributes at one place, and no two of one name.
use Rattle.std.proofs.Common.{◌≡◌, ◌≤◌, ◌<◌, ◌+◌, ◌==◌, ℕ, zero, suc, Bool, true, false, cond, ◌&&◌, List, [], ◌∷◌, ◌++◌, length, map, Option, Some, None, refl, sym, ◌∙◌, ap, subst, arith, inl, inr}
use Rattle.std.specs.Prelude.{nat_lt}
use Rattle.std.specs.List.{list_any, range_with_len}
use Rattle.std.proofs.lemmas.List.{length-append}
use Rattle.std.proofs.lemmas.List.Folds.{list_any-append}
use Rattle.std.proofs.lemmas.Bool.{cases_Bool, cond-true, cond-false}
use Rattle.bms_map.specs.LayoutText.{lower}
use Rattle.bms_map.specs.Maps.{Ground, Shown}
use Rattle.bms_map.specs.Overlaps.{cell_in}
use Rattle.bms_map.specs.Entries.{Entry, Section, same, label_name, group_name, names_in, names_of, index_at, cells_from, attributes_in, attributes_of, laters, label_of as shown_label, shown_at, shown_from, shown_if, shown_of, placed, placed_all, in_order}
use Rattle.bms_map.specs.Fit.{Each, cells_on, LiesOn, IsNamedIf, Apart, AreApart}
use Rattle.bms_map.proofs.FitLaws.{IsEntryOn, each_append, each_range, or_second, or_first, any_range, same_number, each_placed, each_in_order}
use Rattle.bms_map.proofs.NamedLaws.{AreOnce, IsSectionNamed, all_named, apart_less, length_range, occurrence_rises, once_apart, places_decide, same_list, same_place, same_turned, turned}

-- ---- what is shown stands apart
same_itself : (l : List ℕ) → same l l ≡ true
same_itself [] = refl
same_itself (c ∷ cs) = ap (λ b. b && same cs cs) (same_number c) ∙ same_itself cs

in_names : (area : Ground) (entry : Entry) (k : ℕ) (others : List Entry) → entry.is_later ≡ false → (group : Option (List ℕ)) → group ≡ entry.group → 1 ≤ length (shown_label group entry.label)
    → list_any (same (map lower (shown_label group entry.label))) (names_in entry) ≡ true
in_names area entry k others first None is one =
    list_any-append (same (map lower entry.label)) (label_name entry.label) (cond entry.is_later [] (group_name entry.group)) ∙ or_first (list_any (same (map lower entry.label)) (label_name entry.label)) _ (labelled entry.label one)
  where
    labelled : (label : List ℕ) → 1 ≤ length label → list_any (same (map lower label)) (label_name label) ≡ true
    labelled [] some = absurd (omega (arith, some))
    labelled (c ∷ cs) some = or_first (same (map lower (c ∷ cs)) (map lower (c ∷ cs))) false (same_itself (map lower (c ∷ cs)))
in_names area entry k others first (Some group) is one =
    list_any-append (same (map lower group)) (label_name entry.label) (cond entry.is_later [] (group_name entry.group))
    ∙ or_second (list_any (same (map lower group)) (label_name entry.label)) _
    (ap (λ (l : List (List ℕ)). list_any (same (map lower group)) l) (cond-false entry.is_later [] (group_name entry.group) first ∙ ap group_name (sym is)) ∙ or_first (same (map lower group) (map lower group)) false (same_itself (map lower group)))

-- a field's place and name are among these
record IsAmong (places : List ℕ) (names : List (List ℕ)) (field : Shown) : Type 0 where
  place : list_any (same_place field.cell) places ≡ true
  name : 1 ≤ length field.label → list_any (same (map lower field.label)) names ≡ true

each_more : (P Q : Shown → Type 0) (fields : List Shown) → ((field : Shown) → P field → Q field) → Each P fields → Each Q fields
each_more P Q [] more each = tt
each_more P Q (field ∷ fields) more each = (more field each.0, each_more P Q fields more each.1)

own_among : (area : Ground) (entry : Entry) (entries : List Entry) → Each (IsAmong (attributes_in area entry) (names_in entry)) (shown_if area entry entries)
own_among area entry entries = elim (cases_Bool entry.is_later) [
  | inl later ↦ subst (λ (l : List Shown). Each (IsAmong (attributes_in area entry) (names_in entry)) l) (sym (cond-true entry.is_later [] (shown_from area entry (laters entries)) later)) tt
  | inr first ↦ subst (λ (l : List Shown). Each (IsAmong (attributes_in area entry) (names_in entry)) l) (sym (cond-false entry.is_later [] (shown_from area entry (laters entries)) first))
      (each_range (IsAmong (attributes_in area entry) (names_in entry)) (shown_at area entry (laters entries)) 0 entry.occurs (λ k less.
      let f : ℕ → ℕ = λ k. cell_in area (index_at entry k) in
      record {
        place = ap (λ (l : List ℕ). list_any (same_place (f k)) l) (cond-false entry.is_later [] (cells_from area entry) first)
            ∙ any_range (same_place (f k)) f 0 entry.occurs k (omega arith) (omega (arith, less)) (same_number (f k));
        name = in_names area entry k entries first entry.group refl;
      }))
]

all_among : (area : Ground) (entries : List Entry) → Each (IsAmong (attributes_of area entries) (names_of entries)) (shown_of area entries)
all_among area [] = tt
all_among area (entry ∷ entries) =
    each_append (IsAmong (attributes_of area (entry ∷ entries)) (names_of (entry ∷ entries))) (shown_if area entry entries) (shown_of area entries)
    (each_more (IsAmong (attributes_in area entry) (names_in entry)) (IsAmong (attributes_of area (entry ∷ entries)) (names_of (entry ∷ entries))) (shown_if area entry entries) (λ field among.
    record {
      place = list_any-append (same_place field.cell) (attributes_in area entry) (attributes_of area entries) ∙ or_first (list_any (same_place field.cell) (attributes_in area entry)) _ among.place;
      name = λ one. list_any-append (same (map lower field.label)) (names_in entry) (names_of entries) ∙ or_first (list_any (same (map lower field.label)) (names_in entry)) _ (among.name one);
    }) (own_among area entry entries))
    (each_more (IsAmong (attributes_of area entries) (names_of entries)) (IsAmong (attributes_of area (entry ∷ entries)) (names_of (entry ∷ entries))) (shown_of area entries) (λ field among.
    record {
      place = list_any-append (same_place field.cell) (attributes_in area entry) (attributes_of area entries) ∙ or_second (list_any (same_place field.cell) (attributes_in area entry)) _ among.place;
      name = λ one. list_any-append (same (map lower field.label)) (names_in entry) (names_of entries) ∙ or_second (list_any (same (map lower field.label)) (names_in entry)) _ (among.name one);
    }) (all_among area entries))

-- fields of two parts
parts_apart : (places more : List ℕ) (names others : List (List ℕ)) (field other : Shown) → AreOnce same_place (places ++ more) → AreOnce same (names ++ others)
    → IsAmong places names field → IsAmong more others other → Apart field other
parts_apart places more names others field other once distinct one two = (
  turned field.cell other.cell ∙ once_apart same_place places_decide places more field.cell other.cell once one.place two.place,
  λ labelled both. inl (once_apart same same_list names others (map lower field.label) (map lower other.label) distinct (one.name labelled) (two.name both)),
)

cross : (places more : List ℕ) (names others : List (List ℕ)) (xs ys : List Shown) → AreOnce same_place (places ++ more) → AreOnce same (names ++ others)
    → Each (IsAmong places names) xs → Each (IsAmong more others) ys → Each (λ x. Each (Apart x) ys) xs
cross places more names others [] ys once distinct one two = tt
cross places more names others (x ∷ xs) ys once distinct one two =
    (each_more (IsAmong more others) (Apart x) ys (λ y. parts_apart places more names others x y once distinct one.0) two, cross places more names others xs ys once distinct one.1 two)

apart_append : (xs ys : List Shown) → AreApart xs → AreApart ys → Each (λ x. Each (Apart x) ys) xs → AreApart (xs ++ ys)
apart_append [] ys one two across = two
apart_append (x ∷ xs) ys one two across = (each_append (Apart x) xs ys one.0 across.0, apart_append xs ys one.1 two across.1)

apart_range : (f : ℕ → Shown) (from n : ℕ) → ((i j : ℕ) → i < j → j < from + n → Apart (f i) (f j)) → AreApart (map f (range_with_len from n))
apart_range f from zero each = tt
apart_range f from (suc n) each =
    (each_from (from + 1) n (omega arith) (omega arith), apart_range f (from + 1) n (λ i j less few. each i j less (omega (arith, few))))
  where
    each_from : (low count : ℕ) → from < low → low + count ≤ from + suc n → Each (Apart (f from)) (map f (range_with_len low count))
    each_from low zero below within = tt
    each_from low (suc count) below within = (each from low below (omega (arith, within)), each_from (low + 1) count (omega (arith, below)) (omega (arith, within)))

numbers_apart : (occurs i j : ℕ) → i < j → j < occurs → (cond (nat_lt occurs 2) 0 (i + 1) == cond (nat_lt occurs 2) 0 (j + 1)) ≡ false
numbers_apart occurs i j less few = grind (arith, less, few)

own_apart : (area : Ground) → LiesOn area → (entry : Entry) (entries : List Entry) → IsEntryOn area entry → AreApart (shown_if area entry entries)
own_apart area lies entry entries is = elim entry.is_later as (λ b. AreApart (cond b [] (shown_from area entry (laters entries)))) [
  | true ↦ tt
  | false ↦ apart_range (shown_at area entry (laters entries)) 0 entry.occurs (λ i j less few. (
    apart_less (cell_in area (index_at entry i)) (cell_in area (index_at entry j)) (occurrence_rises area lies entry is i j less),
    λ one two. inr (numbers_apart entry.occurs i j less (omega (arith, few))),
  ))
]

-- a later part of what has no two alike
once_later : {A : Type 0} (eq : A → A → Bool) (xs ys : List A) → AreOnce eq (xs ++ ys) → AreOnce eq ys
once_later eq [] ys once = once
once_later eq (x ∷ xs) ys once = once_later eq xs ys once.1

all_apart : (area : Ground) → LiesOn area → (entries : List Entry) → Each (IsEntryOn area) entries → AreOnce same (names_of entries) → AreOnce same_place (attributes_of area entries) → AreApart (shown_of area entries)
all_apart area lies [] each names places = tt
all_apart area lies (entry ∷ entries) each names places =
    apart_append (shown_if area entry entries) (shown_of area entries) (own_apart area lies entry entries each.0)
    (all_apart area lies entries each.1 (once_later same (names_in entry) (names_of entries) names) (once_later same_place (attributes_in area entry) (attributes_of area entries) places))
    (cross (attributes_in area entry) (attributes_of area entries) (names_in entry) (names_of entries) (shown_if area entry entries) (shown_of area entries) places names (own_among area entry entries) (all_among area entries))

-- ---- in the order of their attributes
apart_turned : (field other : Shown) → Apart field other → Apart other field
apart_turned field other apart = (
  turned other.cell field.cell ∙ apart.0,
  λ one two. elim (apart.1 two one) [
    | inl names ↦ inl (same_turned (map lower other.label) (map lower field.label) ∙ names)
    | inr numbers ↦ inr (turned other.occurrence field.occurrence ∙ numbers)
  ],
)

apart_placed : (field : Shown) (fields : List Shown) → Each (Apart field) fields → AreApart fields → AreApart (placed field fields)
apart_placed field [] new apart = (tt, tt)
apart_placed field (other ∷ others) new apart = elim (nat_lt field.cell other.cell) as (λ b. AreApart (cond b (field ∷ other ∷ others) (other ∷ placed field others))) [
  | true ↦ (new, apart)
  | false ↦ (each_placed (Apart other) field others (apart_turned field other new.0) apart.0, apart_placed field others new.1 apart.1)
]

-- fields to come stand apart from those that are placed
apart_in_order : (done fields : List Shown) → AreApart done → AreApart fields → Each (λ field. Each (Apart field) done) fields → AreApart (placed_all done fields)
apart_in_order done [] one two across = one
apart_in_order done (field ∷ fields) one two across =
    apart_in_order (placed field done) fields (apart_placed field done across.0 one) two.1
    (with_new fields two.0 across.1)
  where
    with_new : (others : List Shown) → Each (Apart field) others → Each (λ other. Each (Apart other) done) others → Each (λ other. Each (Apart other) (placed field done)) others
    with_new [] new old = tt
    with_new (other ∷ others) new old = (each_placed (Apart other) field done (apart_turned field other new.0) old.0, with_new others new.1 old.1)

none_done : (fields : List Shown) → Each (λ field. Each (Apart field) []) fields
none_done [] = tt
none_done (field ∷ fields) = (tt, none_done fields)

length_placed : (field : Shown) (fields : List Shown) → length (placed field fields) ≡ suc (length fields)
length_placed field [] = refl
length_placed field (other ∷ others) = elim (nat_lt field.cell other.cell) as (λ b. length (cond b (field ∷ other ∷ others) (other ∷ placed field others)) ≡ suc (length (other ∷ others))) [
  | true ↦ refl
  | false ↦ ap suc (length_placed field others)
]

length_in_order : (done fields : List Shown) → length (placed_all done fields) ≡ length done + length fields
length_in_order done [] = omega arith
length_in_order done (field ∷ fields) = let more = length_in_order (placed field done) fields in let one = length_placed field done in omega (arith, more, one)

length_shown : (area : Ground) (entries : List Entry) → length (shown_of area entries) ≡ length (attributes_of area entries)
length_shown area [] = refl
length_shown area (entry ∷ entries) =
    let more = length_shown area entries in
    let one = length-append (shown_if area entry entries) (shown_of area entries) in
    let other = length-append (attributes_in area entry) (attributes_of area entries) in
    let here : length (shown_if area entry entries) ≡ length (attributes_in area entry) = elim entry.is_later as (λ b. length (cond b [] (shown_from area entry (laters entries))) ≡ length (cond b [] (cells_from area entry))) [
      | true ↦ refl
      | false ↦ length_range (shown_at area entry (laters entries)) 0 entry.occurs ∙ sym (length_range (λ k. cell_in area (index_at entry k)) 0 entry.occurs)
    ] in
    one ∙ omega (arith, more, here) ∙ sym other

-- ---- of a section
pub record IsDeclarable (section : Section) : Type 0 where
  pub named : Each (IsNamedIf (cells_on section.area)) (in_order (shown_of section.area section.entries))
  pub apart : AreApart (in_order (shown_of section.area section.entries))
  pub few : length (in_order (shown_of section.area section.entries)) ≤ 1000

pub declarable : (section : Section) → LiesOn section.area → Each (IsEntryOn section.area) section.entries → IsSectionNamed section → IsDeclarable section
declarable section lies each named =
    let fields = shown_of section.area section.entries in
    record {
      named = each_in_order (IsNamedIf (cells_on section.area)) [] fields tt (all_named section.area None lies section.entries each named.each named.chain);
      apart = apart_in_order [] fields tt (all_apart section.area lies section.entries each named.names named.places) (none_done fields);
      few = let count = length_in_order [] fields in let same_length = length_shown section.area section.entries in let few = named.few in omega (arith, count, same_length, few);
    }
