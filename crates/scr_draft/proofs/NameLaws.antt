-- The forms of a drafted field's name: the least that is free, and that each is a name.
use Rattle.std.proofs.Common.{◌≡◌, ℕ, zero, suc, ◌+◌, ◌-◌, ◌/◌, ◌%◌, ◌^◌, ◌<◌, ◌≤◌, ◌⊎◌, inl, inr, min, Bool, true, false, not, ◌&&◌, ◌||◌, ◌==◌, cond, nat_le, nat_lt, bytes_eq, List, [], ◌∷◌, ◌++◌, codes, decimal, length, length-append, get_or, take, unwrap_or, refl, sym, ◌∙◌, ap, subst, arith}
use Rattle.std.specs.List.{list_all}
use Rattle.std.specs.Char.{is_ascii_digit}
use Rattle.std.specs.Str.{all_ascii_digits}
use Rattle.std.proofs.lemmas.Bool.{cond-true, cond-false, cases_Bool, cases_lt, and_parts, lt-ltb, le-ltb, le-leb, lt-leb}
use Rattle.std.proofs.lemmas.Bool.Decides.{nat_tests}
use Rattle.std.proofs.lemmas.Fmt.{digits_decimal, decimal_injective, length-decimal-le}
use Rattle.std.proofs.lemmas.List.{length-take}
use Rattle.std.proofs.lemmas.List.Folds.{list_all-append}
use Rattle.std.proofs.lemmas.Slice.Eq.{bytes_eq-Decides}
use Rattle.std.proofs.lemmas.Str.Parse.{not_in_digits}
use Rattle.ds_codec.proofs.Below.{each_below}
use Rattle.ds_screen.proofs.RingLaws.{IsFound, search_cases, least_found}
use Rattle.scr_layout.specs.Entry.{is_name_byte, is_name}
use Rattle.scr_layout.proofs.Sizes.{own}
use Rattle.scr_draft.specs.Label.{is_word}
use Rattle.scr_draft.specs.Name.{lower, dashed_byte, dashed_from, dashed, undashed, place_name, suffix, stem, form, is_taken, free_number, free_name, IsFree}

-- ---- one form more than names is free
abbrev passed : ℕ → ℕ → ℕ
passed k i = cond (nat_lt i k) i (i + 1)

passed_cases : (k i : ℕ) → ((i < k) × (passed k i ≡ i)) ⊎ ((k ≤ i) × (passed k i ≡ i + 1))
passed_cases k i =
    elim (cases_lt i k) [
      | inl below ↦ inl (below, cond-true (nat_lt i k) _ _ (lt-ltb i k below))
      | inr from ↦ inr (from, cond-false (nat_lt i k) _ _ (le-ltb i k from))
    ]

passed_once : (k i j : ℕ) → passed k i ≡ passed k j → i ≡ j
passed_once k i j same =
    elim (passed_cases k i) [
      | inl a ↦ elim (passed_cases k j) [ inl b ↦ omega arith | inr b ↦ omega arith ]
      | inr a ↦ elim (passed_cases k j) [ inl b ↦ omega arith | inr b ↦ omega arith ]
    ]

passed_misses : (k i : ℕ) → passed k i ≡ k → ⊥
passed_misses k i same = elim (passed_cases k i) [ inl a ↦ omega arith | inr a ↦ omega arith ]

passed_within : (k i : ℕ) → passed k i ≤ i + 1
passed_within k i = elim (passed_cases k i) [ inl a ↦ omega arith | inr a ↦ omega arith ]

neither : (a b : Bool) → a ≡ false → b ≡ false → (a || b) ≡ false
neither a b none other = ap (λ x. x || b) none ∙ other

-- of more different forms than names one is none of the names
pub some_free : (names : List (List ℕ)) (forms : ℕ → List ℕ) → ((i j : ℕ) → i ≤ length names → j ≤ length names → forms i ≡ forms j → i ≡ j)
    → (k : ℕ) × (k ≤ length names) × (is_taken names (forms k) ≡ false)
some_free [] forms once = (0, omega arith, refl)
some_free (name ∷ names) forms once =
    let one = some_free names forms (λ i j low high same. once i j (omega arith) (omega arith) same) in
    elim (cases_Bool (bytes_eq (forms one.0) name)) [
      | inr apart ↦ (one.0, omega (arith, one.1), neither (bytes_eq (forms one.0) name) (is_taken names (forms one.0)) apart one.2)
      | inl same ↦
          let other = some_free names (λ i. forms (passed one.0 i))
          (λ i j low high e. passed_once one.0 i j (once (passed one.0 i) (passed one.0 j) (omega (arith, passed_within one.0 i)) (omega (arith, passed_within one.0 j)) e)) in
          let k = passed one.0 other.0 in
          let within : k ≤ length (name ∷ names) = omega (arith, passed_within one.0 other.0, other.1) in
          (k, within, neither (bytes_eq (forms k) name) (is_taken names (forms k)) (differs k within one.0 (omega (arith, one.1)) same (passed_misses one.0 other.0)) other.2)
    ]
  where
    differs : (k : ℕ) → k ≤ length (name ∷ names) → (j : ℕ) → j ≤ length (name ∷ names) → bytes_eq (forms j) name ≡ true → (k ≡ j → ⊥) → bytes_eq (forms k) name ≡ false
    differs k high j low same apart =
        elim (cases_Bool (bytes_eq (forms k) name)) [
          | inl alike ↦ absurd (apart (once k j high low ((bytes_eq-Decides (forms k) name).0 alike ∙ sym ((bytes_eq-Decides (forms j) name).0 same))))
          | inr other ↦ other
        ]

pub not_false : (b : Bool) → not b ≡ true → b ≡ false
not_false true h = absurd cc
not_false false h = refl

not_true : (b : Bool) → not b ≡ false → b ≡ true
not_true true h = refl
not_true false h = absurd cc

-- ---- forms differ
abbrev NoDash : List ℕ → Type 0
NoDash ds = (k : ℕ) → k < length ds → get_or ds k 0 ≡ 45 → ⊥

dash_at : (xs ys : List ℕ) → get_or (xs ++ 45 ∷ ys) (length xs) 0 ≡ 45
dash_at [] ys = refl
dash_at (x ∷ xs) ys = dash_at xs ys

dash_in : (ds xs ys : List ℕ) → NoDash ds → ds ≡ xs ++ 45 ∷ ys → ⊥
dash_in ds xs ys none is = none (length xs) (omega (arith, ap length is, length-append xs (45 ∷ ys))) (ap (λ l. get_or l (length xs) 0) is ∙ dash_at xs ys)

same_end : (xs ys ds es : List ℕ) → NoDash ds → NoDash es → xs ++ 45 ∷ ds ≡ ys ++ 45 ∷ es → ds ≡ es
same_end [] [] ds es none other same = cc
same_end [] (y ∷ ys) ds es none other same = absurd (dash_in ds ys es none (cc))
same_end (x ∷ xs) [] ds es none other same = absurd (dash_in es xs ds other (sym (cc)))
same_end (x ∷ xs) (y ∷ ys) ds es none other same = same_end xs ys ds es none other (cc)

no_dash : (n : ℕ) → n < 2 ^ 64 → NoDash (decimal n)
no_dash n small = not_in_digits own (decimal n) 45 (digits_decimal own n small) (λ within. omega arith)

suffix_more : (k : ℕ) → suffix (k + 1) ≡ 45 ∷ decimal (k + 1 + 1)
suffix_more k = cond-false (nat_le (k + 1) 0) _ _ (lt-leb (k + 1) 0 (omega arith))

form_more : (cols place : ℕ) (label : List ℕ) (k : ℕ)
    → form cols place label (k + 1) ≡ stem (place_name cols place) (dashed label) (32 - length (suffix (k + 1))) ++ 45 ∷ decimal (k + 1 + 1)
form_more cols place label k = ap (λ s. stem (place_name cols place) (dashed label) (32 - length (suffix (k + 1))) ++ s) (suffix_more k)

forms_once : (cols place : ℕ) (label : List ℕ) (i j : ℕ) → i + 2 < 2 ^ 64 → j + 2 < 2 ^ 64 → form cols place label (i + 1) ≡ form cols place label (j + 1) → i ≡ j
forms_once cols place label i j low high same =
    let ends = same_end (stem (place_name cols place) (dashed label) (32 - length (suffix (i + 1)))) (stem (place_name cols place) (dashed label) (32 - length (suffix (j + 1))))
    (decimal (i + 1 + 1)) (decimal (j + 1 + 1)) (no_dash (i + 1 + 1) (omega arith)) (no_dash (j + 1 + 1) (omega arith))
    (sym (form_more cols place label i) ∙ same ∙ form_more cols place label j) in
    omega (arith, decimal_injective (i + 1 + 1) (j + 1 + 1) (omega arith) (omega arith) ends)

-- the least number whose form is free, and how large it is
pub form_free : (names : List (List ℕ)) (cols place : ℕ) (label : List ℕ) → length names + 2 < 2 ^ 64
    → IsFree names (form cols place label) (free_number names (form cols place label)) × (free_number names (form cols place label) ≤ length names + 1)
form_free names cols place label few =
    let forms = form cols place label in
    let one = some_free names (λ k. forms (k + 1)) (λ i j low high same. forms_once cols place label i j (omega (arith, few)) (omega (arith, few)) same) in
    let hit : not (is_taken names (forms (one.0 + 1))) ≡ true = ap not one.2 in
    elim (search_cases (length names + 2) (λ k. not (is_taken names (forms k)))) [
      | inl found ↦ first_free found.0 found.1 one.0 one.1 hit
      | inr none ↦ absurd (let e : true ≡ false = sym hit ∙ none (one.0 + 1) (omega (arith, one.1)) in cc)
    ]
  where
    first_free : (m : ℕ) → IsFound (length names + 2) (λ k. not (is_taken names (form cols place label k))) m → (j : ℕ) → j ≤ length names → not (is_taken names (form cols place label (j + 1))) ≡ true
        → IsFree names (form cols place label) (free_number names (form cols place label)) × (free_number names (form cols place label) ≤ length names + 1)
    first_free m found j within hit =
        let forms = form cols place label in
        let is : free_number names forms ≡ m = ap (λ o. unwrap_or o 0) (least_found (length names + 2) (λ k. not (is_taken names (forms k))) m found) in
        let free : IsFree names forms m = record {
          free = not_false (is_taken names (forms m)) found.hit;
          first = λ i below. not_true (is_taken names (forms i)) (found.misses i below);
        } in (
          subst (IsFree names forms) (sym is) free,
          elim (cases_lt (j + 1) m) [
            | inl earlier ↦ let e : true ≡ false = sym hit ∙ found.misses (j + 1) earlier in absurd cc
            | inr later ↦ omega (arith, is, later, within)
          ],
        )

-- where each form before the last is taken, the last is the free one
pub free_there : (names : List (List ℕ)) (cols place : ℕ) (label : List ℕ) (k : ℕ) → length names + 2 < 2 ^ 64
    → is_taken names (form cols place label k) ≡ false → ((j : ℕ) → j < k → is_taken names (form cols place label j) ≡ true)
    → form cols place label k ≡ free_name names (form cols place label)
free_there names cols place label k few free first =
    let found = form_free names cols place label few in
    let m = free_number names (form cols place label) in
    ap (form cols place label) (elim (cases_lt k m) [
      | inl below ↦ let e : true ≡ false = sym (found.0.first k below) ∙ free in absurd cc
      | inr from ↦ elim (cases_lt m k) [
        | inl above ↦ let e : true ≡ false = sym (first m above) ∙ found.0.free in absurd cc
        | inr same ↦ omega arith
      ]
    ])

pub free_last : (names : List (List ℕ)) (cols place : ℕ) (label : List ℕ) → length names + 2 < 2 ^ 64
    → ((j : ℕ) → j < length names + 1 → is_taken names (form cols place label j) ≡ true)
    → form cols place label (length names + 1) ≡ free_name names (form cols place label)
free_last names cols place label few first =
    let found = form_free names cols place label few in
    let m = free_number names (form cols place label) in
    ap (form cols place label) (elim (cases_lt m (length names + 1)) [
      | inl below ↦ let e : true ≡ false = sym (first m below) ∙ found.0.free in absurd cc
      | inr same ↦ omega (arith, found.1)
    ])

-- ---- each form is a name
abbrev pub AreNameBytes : List ℕ → Type 0
AreNameBytes text = list_all is_name_byte text ≡ true

bytes_append : (xs ys : List ℕ) → AreNameBytes xs → AreNameBytes ys → AreNameBytes (xs ++ ys)
bytes_append xs ys first others = list_all-append is_name_byte xs ys ∙ ap (λ b. b && list_all is_name_byte ys) first ∙ others

pub bytes_take : (n : ℕ) (xs : List ℕ) → AreNameBytes xs → AreNameBytes (take n xs)
bytes_take zero xs all = refl
bytes_take (suc n) [] all = refl
bytes_take (suc n) (x ∷ xs) all =
    let parts = and_parts (is_name_byte x) (list_all is_name_byte xs) all in
    ap (λ b. b && list_all is_name_byte (take n xs)) parts.0 ∙ bytes_take n xs parts.1

small_word : (c : ℕ) → is_word c ≡ true → c < 128
small_word c word = grind (arith, nat_tests)

small_digit : (c : ℕ) → is_ascii_digit c ≡ true → c < 128
small_digit c digit = grind (arith, nat_tests)

pub either_way : (a b : Bool) → (not a || b) ≡ true → a ≡ true → b ≡ true
either_way true b h is = h
either_way false b h is = absurd cc

lower_byte : (c : ℕ) → is_word c ≡ true → is_name_byte (lower c) ≡ true
lower_byte c word = either_way (is_word c) _ (each_below (λ b. not (is_word b) || is_name_byte (lower b)) 128 c refl (small_word c word)) word

lower_no_dash : (c : ℕ) → is_word c ≡ true → (lower c == 45) ≡ false
lower_no_dash c word =
    not_false (lower c == 45) (either_way (is_word c) (not (lower c == 45)) (each_below (λ b. not (is_word b) || not (lower b == 45)) 128 c refl (small_word c word)) word)

digit_byte : (c : ℕ) → is_ascii_digit c ≡ true → is_name_byte c ≡ true
digit_byte c digit = either_way (is_ascii_digit c) _ (each_below (λ b. not (is_ascii_digit b) || is_name_byte b) 128 c refl (small_digit c digit)) digit

digit_bytes : (ds : List ℕ) → all_ascii_digits ds ≡ true → AreNameBytes ds
digit_bytes [] digits = refl
digit_bytes (d ∷ ds) digits =
    let parts = and_parts (is_ascii_digit d) (all_ascii_digits ds) digits in
    ap (λ b. b && list_all is_name_byte ds) (digit_byte d parts.0) ∙ digit_bytes ds parts.1

pub decimal_bytes : (n : ℕ) → n < 2 ^ 64 → AreNameBytes (decimal n)
decimal_bytes n small = digit_bytes (decimal n) (digits_decimal own n small)

-- what a byte of a label adds
byte_bytes : (none : Bool) (c : ℕ) → AreNameBytes (dashed_byte none c)
byte_bytes none c =
    elim (cases_Bool (is_word c)) [
      | inl word ↦ ap (list_all is_name_byte) (cond-true (is_word c) _ _ word) ∙ ap (λ b. b && true) (lower_byte c word)
      | inr other ↦ ap (list_all is_name_byte) (cond-false (is_word c) _ _ other) ∙ dash none
    ]
  where
    dash : (b : Bool) → AreNameBytes (cond b [] (45 ∷ []))
    dash true = refl
    dash false = refl

pub dashed_bytes : (none : Bool) (label : List ℕ) → AreNameBytes (dashed_from none label)
dashed_bytes none [] = refl
dashed_bytes none (c ∷ cs) = bytes_append (dashed_byte none c) (dashed_from (not (is_word c)) cs) (byte_bytes none c) (dashed_bytes (not (is_word c)) cs)

-- no `-` begins the words
abbrev BeginsWell : List ℕ → Type 0
BeginsWell [] = Unit {0}
BeginsWell (c ∷ cs) = (c == 45) ≡ false

begins_well : (label : List ℕ) → BeginsWell (dashed label)
begins_well [] = tt
begins_well (c ∷ cs) =
    elim (cases_Bool (is_word c)) [
      | inl word ↦ subst (λ front. BeginsWell (front ++ dashed_from (not (is_word c)) cs)) (sym (cond-true (is_word c) _ _ word)) (lower_no_dash c word)
      | inr other ↦
          subst (λ front. BeginsWell (front ++ dashed_from (not (is_word c)) cs)) (sym (cond-false (is_word c) _ _ other))
          (subst (λ b. BeginsWell (dashed_from (not b) cs)) (sym other) (begins_well cs))
    ]

pub undashed_bytes : (text : List ℕ) → AreNameBytes text → AreNameBytes (undashed text)
undashed_bytes text all =
    elim (cases_Bool (get_or text (length text - 1) 0 == 45)) [
      | inl dash ↦ ap (list_all is_name_byte) (cond-true (get_or text (length text - 1) 0 == 45) _ _ dash) ∙ bytes_take (length text - 1) text all
      | inr other ↦ ap (list_all is_name_byte) (cond-false (get_or text (length text - 1) 0 == 45) _ _ other) ∙ all
    ]

undashed_size : (c : ℕ) (cs : List ℕ) → (c == 45) ≡ false → (1 ≤ length (undashed (c ∷ cs))) × (length (undashed (c ∷ cs)) ≤ length (c ∷ cs))
undashed_size c [] well =
    let e : length (undashed (c ∷ [])) ≡ 1 = ap length (cond-false (c == 45) (take 0 (c ∷ [])) (c ∷ []) well) in
    (omega (arith, e), omega (arith, e))
undashed_size c (d ∷ ds) well =
    let text = c ∷ d ∷ ds in
    elim (cases_Bool (get_or text (length text - 1) 0 == 45)) [
      | inl dash ↦
          let e : length (undashed text) ≡ min (length text - 1) (length text) = ap length (cond-true (get_or text (length text - 1) 0 == 45) _ _ dash) ∙ length-take (length text - 1) text in
          (omega (arith, e), omega (arith, e))
      | inr other ↦
          let e : length (undashed text) ≡ length text = ap length (cond-false (get_or text (length text - 1) 0 == 45) _ _ other) in
          (omega (arith, e), omega (arith, e))
    ]

-- a name before its suffix
record IsStem (text : List ℕ) (most : ℕ) : Type 0 where
  bytes : AreNameBytes text
  some : 1 ≤ length text
  few : length text ≤ most

stem_is : (place words : List ℕ) (most : ℕ) → 1 ≤ most → IsStem place most → BeginsWell words → AreNameBytes words → IsStem (stem place words most) most
stem_is place [] most some is well bytes = is
stem_is place (c ∷ cs) zero some is well bytes = absurd (omega arith)
stem_is place (c ∷ cs) (suc most) some is well bytes =
    let size = undashed_size c (take most cs) well in
    record {
      bytes = undashed_bytes (c ∷ take most cs) (bytes_take (suc most) (c ∷ cs) bytes);
      some = size.0;
      few = omega (arith, size.1, length-take most cs);
    }

place_is : (cols place most : ℕ) → 15 ≤ most → place / cols + 1 < 1000 → place % cols + 1 < 1000 → IsStem (place_name cols place) most
place_is cols place most room row col =
    let one = decimal (place / cols + 1) in
    let two = decimal (place % cols + 1) in
    let sizes = length-append one (codes "-col-" ++ two) in
    record {
      bytes = bytes_append (codes "row-") (one ++ (codes "-col-" ++ two)) refl (bytes_append one (codes "-col-" ++ two) (decimal_bytes _ (omega arith)) (bytes_append (codes "-col-") two refl (decimal_bytes _ (omega arith))));
      some = omega arith;
      few = omega (arith, sizes, length-decimal-le 3 (place / cols + 1) (omega arith) (omega arith) (omega arith), length-decimal-le 3 (place % cols + 1) (omega arith) (omega arith) (omega arith));
    }

suffix_is : (k : ℕ) → k < 5000 → AreNameBytes (suffix k) × (length (suffix k) ≤ 5)
suffix_is zero small = (refl, omega arith)
suffix_is (suc k) small =
    let e : suc k ≡ k + 1 = omega arith in
    let is : suffix (suc k) ≡ 45 ∷ decimal (k + 1 + 1) = ap suffix e ∙ suffix_more k in
    let size : length (suffix (suc k)) ≡ suc (length (decimal (k + 1 + 1))) = ap length is in
    (ap (list_all is_name_byte) is ∙ decimal_bytes (k + 1 + 1) (omega arith), omega (arith, size, length-decimal-le 4 (k + 1 + 1) (omega arith) (omega arith) (omega arith)))

pub form_named : (cols place : ℕ) (label : List ℕ) (k : ℕ) → k < 5000 → place / cols + 1 < 1000 → place % cols + 1 < 1000 → is_name (form cols place label k) ≡ true
form_named cols place label k small row col =
    let last = suffix_is k small in
    let most = 32 - length (suffix k) in
    let first = stem_is (place_name cols place) (dashed label) most (omega (arith, last.1)) (place_is cols place most (omega (arith, last.1)) row col) (begins_well label) (dashed_bytes true label) in
    let text = stem (place_name cols place) (dashed label) most in
    let size = length-append text (suffix k) in
    tests (form cols place label k) (omega (arith, size, first.some)) (omega (arith, size, first.few, last.1)) (bytes_append text (suffix k) first.bytes last.0)
  where
    tests : (name : List ℕ) → 1 ≤ length name → length name ≤ 32 → AreNameBytes name → is_name name ≡ true
    tests name some few bytes =
        ap (λ b. (b && nat_le (length name) 32) && list_all is_name_byte name) (le-leb 1 (length name) some)
        ∙ ap (λ b. b && list_all is_name_byte name) (le-leb (length name) 32 few) ∙ bytes
