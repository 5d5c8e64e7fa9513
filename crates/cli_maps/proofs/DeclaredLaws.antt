-- What a map's layout declares is a layout: its names are lawful and apart, and so are its places.
use Rattle.std.proofs.Common.{◌≡◌, ℕ, suc, ◌+◌, ◌-◌, ◌*◌, ◌%◌, ◌^◌, ◌<◌, ◌≤◌, ◌⊎◌, inl, inr, Bool, true, false, not, ◌&&◌, ◌||◌, ◌==◌, nat_eq, nat_le, cond, bytes_eq, IsTrue, List, [], ◌∷◌, ◌++◌, codes, decimal, length, length-append, map, All, refl, sym, ◌∙◌, ap, subst, arith}
use Rattle.std.specs.Prelude.{min}
use Rattle.std.specs.List.{list_all, list_any, filter, AllByRecursion, IsDistinct}
use Rattle.std.proofs.lemmas.Bool.{cond-true, cond-false, cases_Bool, cases_lt, and_parts, eqb-true, eq-eqb, le-leb, false≢true}
use Rattle.std.proofs.lemmas.Fmt.{decimal_injective}
use Rattle.std.proofs.lemmas.List.Elements.{All-nil, All-cons}
use Rattle.std.proofs.lemmas.List.Folds.{list_all-append}
use Rattle.std.proofs.lemmas.Nat.{mod_below}
use Rattle.std.proofs.lemmas.Slice.Eq.{bytes_eq-Decides}
use Rattle.std.proofs.lemmas.Str.{encode_ascii}
use Rattle.std.proofs.Math.Nat.{mod-eq_of_lt, mod_self}
use Rattle.ds_codec.specs.declared.size.Size.{Size}
use Rattle.ds_codec.specs.declared.size.Mode.TheVariants.{Bits14}
use Rattle.ds_codec.specs.Geometry.{IsGood}
use Rattle.ds_codec.proofs.Below.{each_below}
use Rattle.bms_source.specs.Printed.{printed_codes}
use Rattle.bms_source.specs.Words.{is_of_symbol, begins_symbol}
use Rattle.bms_map.specs.Entries.{same}
use Rattle.bms_map.specs.Fit.{Each, IsScreen, cells_on, IsFieldOn, IsNamedOn, IsNamedIf, Apart, AreApart, IsFit}
use Rattle.bms_map.specs.LayoutText.{lower, numbered, place_of}
use Rattle.bms_map.specs.Maps.{Shown, Sheet}
use Rattle.bms_map.specs.Overlaps.{is_declared}
use Rattle.scr_layout.specs.Entry.{Declared, is_name_byte, is_name}
use Rattle.scr_layout.specs.Layout.{IsLayout}
use Rattle.scr_draft.proofs.NameLaws.{decimal_bytes, either_way, not_false}
use Rattle.cli_maps.specs.Layouts.{name_of, entry_of, declared_fields, declaration_of}

-- ---- names
small_symbol : (c : ℕ) → is_of_symbol c ≡ true → c < 128
unfolding begins_symbol
small_symbol c e = grind (arith, e)

lower_byte : (c : ℕ) → is_of_symbol c ≡ true → is_name_byte (lower c) ≡ true
unfolding begins_symbol
lower_byte c e = either_way (is_of_symbol c) (is_name_byte (lower c)) (each_below (λ b. not (is_of_symbol b) || is_name_byte (lower b)) 128 c refl (small_symbol c e)) e

lower_small : (c : ℕ) → is_of_symbol c ≡ true → lower c < 128
lower_small c e = small_byte (lower c) (lower_byte c e)
  where
    small_byte : (b : ℕ) → is_name_byte b ≡ true → b < 128
    small_byte b named = grind (arith, named)

lower_no_dash : (c : ℕ) → is_of_symbol c ≡ true → (lower c == 45) ≡ false
unfolding begins_symbol
lower_no_dash c e = not_false (lower c == 45) (either_way (is_of_symbol c) (not (lower c == 45)) (each_below (λ b. not (is_of_symbol b) || not (lower b == 45)) 128 c refl (small_symbol c e)) e)

-- a label in lower case is printed as it is
pub printed_lower : (label : List ℕ) → list_all is_of_symbol label ≡ true → printed_codes (map lower label) ≡ map lower label
printed_lower [] all = refl
printed_lower (c ∷ cs) all =
    let parts = and_parts (is_of_symbol c) (list_all is_of_symbol cs) all in
    ap (λ (l : List ℕ). l ++ printed_codes (map lower cs)) (encode_ascii (lower c) (lower_small c parts.0)) ∙ ap (λ (l : List ℕ). lower c ∷ l) (printed_lower cs parts.1)

bytes_lower : (label : List ℕ) → list_all is_of_symbol label ≡ true → list_all is_name_byte (map lower label) ≡ true
bytes_lower [] all = refl
bytes_lower (c ∷ cs) all =
    let parts = and_parts (is_of_symbol c) (list_all is_of_symbol cs) all in
    ap (λ b. b && list_all is_name_byte (map lower cs)) (lower_byte c parts.0) ∙ bytes_lower cs parts.1

bytes_append : (xs ys : List ℕ) → list_all is_name_byte xs ≡ true → list_all is_name_byte ys ≡ true → list_all is_name_byte (xs ++ ys) ≡ true
bytes_append xs ys one other = list_all-append is_name_byte xs ys ∙ ap (λ b. b && list_all is_name_byte ys) one ∙ other

number_bytes : (n : ℕ) → n ≤ 1000 → list_all is_name_byte (numbered (codes "-") [] n) ≡ true
number_bytes n few = elim (n == 0) as (λ b. list_all is_name_byte (cond b [] (codes "-" ++ (decimal n ++ []))) ≡ true) [
  | true ↦ refl
  | false ↦ bytes_append (decimal n) [] (decimal_bytes n (omega (arith, few))) refl
]

length_lower : (label : List ℕ) → length (map lower label) ≡ length label
length_lower [] = refl
length_lower (c ∷ cs) = ap suc (length_lower cs)

and_two : (a b : Bool) → a ≡ true → b ≡ true → (a && b) ≡ true
and_two true b one other = other
and_two false b one other = absurd cc

pub named_well : (cells : ℕ) (field : Shown) → 1 ≤ length field.label → IsNamedOn cells field → is_name (name_of field) ≡ true
named_well cells field one is =
    let tail = numbered (codes "-") [] field.occurrence in
    let whole = length-append (map lower field.label) tail in
    let size = length_lower field.label in
    let short = is.short in
    let plain : is_name (map lower field.label ++ tail) ≡ true =
    and_two (nat_le 1 (length (map lower field.label ++ tail)) && nat_le (length (map lower field.label ++ tail)) 32) _
    (and_two (nat_le 1 (length (map lower field.label ++ tail))) _ (le-leb _ _ (omega (arith, one, whole, size))) (le-leb _ _ (omega (arith, short, whole, size))))
    (bytes_append (map lower field.label) tail (bytes_lower field.label is.symbol) (number_bytes field.occurrence is.number)) in
    subst (λ (l : List ℕ). is_name (l ++ tail) ≡ true) (sym (printed_lower field.label is.symbol)) plain

-- ---- names differ
abbrev NoDash : List ℕ → Type 0
NoDash label = list_any (λ c. c == 45) label ≡ false

no_dash : (label : List ℕ) → list_all is_of_symbol label ≡ true → NoDash (map lower label)
no_dash [] all = refl
no_dash (c ∷ cs) all =
    let parts = and_parts (is_of_symbol c) (list_all is_of_symbol cs) all in
    ap (λ b. b || list_any (λ d. d == 45) (map lower cs)) (lower_no_dash c parts.0) ∙ no_dash cs parts.1

-- what may follow a label: nothing, or a dash
abbrev IsTail : List ℕ → Type 0
IsTail [] = Unit {0}
IsTail (c ∷ cs) = c ≡ 45

number_tail : (n : ℕ) → IsTail (numbered (codes "-") [] n)
number_tail n = elim (n == 0) as (λ b. IsTail (cond b [] (codes "-" ++ (decimal n ++ [])))) [ true ↦ tt | false ↦ refl ]

cons_head : (a b : ℕ) (as_ bs : List ℕ) → a ∷ as_ ≡ b ∷ bs → a ≡ b
cons_head a b as_ bs e = cc

cons_tail : (a b : ℕ) (as_ bs : List ℕ) → a ∷ as_ ≡ b ∷ bs → as_ ≡ bs
cons_tail a b as_ bs e = cc

dash_here : (c : ℕ) (cs : List ℕ) → NoDash (c ∷ cs) → c ≡ 45 → ⊥
dash_here c cs none is = false≢true (sym (or_none (c == 45) (list_any (λ d. d == 45) cs) none) ∙ eq-eqb c 45 is)
  where
    or_none : (a b : Bool) → (a || b) ≡ false → a ≡ false
    or_none true b e = absurd cc
    or_none false b e = refl

dash_later : (c : ℕ) (cs : List ℕ) → NoDash (c ∷ cs) → NoDash cs
dash_later c cs none = or_rest (c == 45) (list_any (λ d. d == 45) cs) none
  where
    or_rest : (a b : Bool) → (a || b) ≡ false → b ≡ false
    or_rest true b e = absurd cc
    or_rest false b e = e

record IsCut (xs ys xt yt : List ℕ) : Type 0 where
  label : xs ≡ ys
  tail : xt ≡ yt

nil_cons : (c : ℕ) (cs : List ℕ) → ◌≡◌ {A = List ℕ} [] (c ∷ cs) → ⊥
nil_cons c cs e = absurd cc

cut : (xs ys xt yt : List ℕ) → NoDash xs → NoDash ys → IsTail xt → IsTail yt → xs ++ xt ≡ ys ++ yt → IsCut xs ys xt yt
cut [] [] xt yt one two tx ty e = record { label = refl; tail = e }
cut [] (y ∷ ys) [] yt one two tx ty e = absurd (nil_cons y (ys ++ yt) e)
cut [] (y ∷ ys) (t ∷ xt) yt one two tx ty e = absurd (dash_here y ys two (sym (cons_head t y xt (ys ++ yt) e) ∙ tx))
cut (x ∷ xs) [] xt [] one two tx ty e = absurd (nil_cons x (xs ++ xt) (sym e))
cut (x ∷ xs) [] xt (t ∷ yt) one two tx ty e = absurd (dash_here x xs one (cons_head x t (xs ++ xt) yt e ∙ ty))
cut (x ∷ xs) (y ∷ ys) xt yt one two tx ty e =
    let more = cut xs ys xt yt (dash_later x xs one) (dash_later y ys two) tx ty (cons_tail x y (xs ++ xt) (ys ++ yt) e) in
    record { label = ap (λ (c : ℕ). c ∷ xs) (cons_head x y (xs ++ xt) (ys ++ yt) e) ∙ ap (λ (l : List ℕ). y ∷ l) more.label; tail = more.tail }

nil_after : {A : Type 0} (xs : List A) → xs ++ [] ≡ xs
nil_after [] = refl
nil_after (x ∷ xs) = ap (λ l. x ∷ l) (nil_after xs)

numbers_same : (m n : ℕ) → m ≤ 1000 → n ≤ 1000 → numbered (codes "-") [] m ≡ numbered (codes "-") [] n → m ≡ n
numbers_same m n one two e = elim (cases_Bool (m == 0)) [
  | inl first ↦ elim (cases_Bool (n == 0)) [
    | inl second ↦ eqb-true m 0 first ∙ sym (eqb-true n 0 second)
    | inr second ↦ absurd (nil_cons 45 (decimal n ++ []) (sym (cond-true (m == 0) [] (codes "-" ++ (decimal m ++ [])) first) ∙ e ∙ cond-false (n == 0) [] (codes "-" ++ (decimal n ++ [])) second))
  ]
  | inr first ↦ elim (cases_Bool (n == 0)) [
    | inl second ↦ absurd (nil_cons 45 (decimal m ++ []) (sym (sym (cond-false (m == 0) [] (codes "-" ++ (decimal m ++ [])) first) ∙ e ∙ cond-true (n == 0) [] (codes "-" ++ (decimal n ++ [])) second)))
    | inr second ↦
        let both : 45 ∷ (decimal m ++ []) ≡ 45 ∷ (decimal n ++ []) = sym (cond-false (m == 0) [] (codes "-" ++ (decimal m ++ [])) first) ∙ e ∙ cond-false (n == 0) [] (codes "-" ++ (decimal n ++ [])) second in
        decimal_injective m n (omega (arith, one)) (omega (arith, two)) (sym (nil_after (decimal m)) ∙ cons_tail 45 45 (decimal m ++ []) (decimal n ++ []) both ∙ nil_after (decimal n))
  ]
]

same_itself : (l : List ℕ) → same l l ≡ true
same_itself [] = refl
same_itself (c ∷ cs) = ap (λ b. b && same cs cs) (eq-eqb c c refl) ∙ same_itself cs

names_apart : (cells : ℕ) (field other : Shown) → 1 ≤ length field.label → 1 ≤ length other.label → IsNamedOn cells field → IsNamedOn cells other → Apart field other → name_of field ≡ name_of other → ⊥
names_apart cells field other one two is it apart e =
    let plain : map lower field.label ++ numbered (codes "-") [] field.occurrence ≡ map lower other.label ++ numbered (codes "-") [] other.occurrence =
    ap (λ (l : List ℕ). l ++ numbered (codes "-") [] field.occurrence) (sym (printed_lower field.label is.symbol)) ∙ e ∙ ap (λ (l : List ℕ). l ++ numbered (codes "-") [] other.occurrence) (printed_lower other.label it.symbol) in
    let parts = cut (map lower field.label) (map lower other.label) (numbered (codes "-") [] field.occurrence) (numbered (codes "-") [] other.occurrence) (no_dash field.label is.symbol) (no_dash other.label it.symbol)
    (number_tail field.occurrence) (number_tail other.occurrence) plain in
    elim (apart.1 one two) [
      | inl labels ↦ false≢true (sym labels ∙ ap (λ (l : List ℕ). same (map lower field.label) l) (sym parts.label) ∙ same_itself (map lower field.label))
      | inr numbers ↦ false≢true (sym numbers ∙ eq-eqb field.occurrence other.occurrence (numbers_same field.occurrence other.occurrence is.number it.number parts.tail))
    ]

-- ---- places
pub place_is : (it : Sheet) (field : Shown) → IsFit it → field.cell < cells_on it.area → place_of it field ≡ (field.cell + 1) % cells_on it.area
place_is it field fit inside =
    let few = few_cells it.area.screen fit.ground.screen in
    ap (λ m. m % cells_on it.area) (small (field.cell + 1) (omega (arith, inside, few)))
  where
    small : (n : ℕ) → n < 2 ^ 31 → min n (2 ^ 32 - 1) ≡ n
    small n lt = grind (arith, lt)

    few_cells : (screen : Size) → IsScreen screen → screen.rows * screen.cols ≤ 16384
    few_cells screen (inl is) = subst (λ (s : Size). s.rows * s.cols ≤ 16384) (sym is) (omega arith)
    few_cells screen (inr (inl is)) = subst (λ (s : Size). s.rows * s.cols ≤ 16384) (sym is) (omega arith)
    few_cells screen (inr (inr (inl is))) = subst (λ (s : Size). s.rows * s.cols ≤ 16384) (sym is) (omega arith)
    few_cells screen (inr (inr (inr is))) = subst (λ (s : Size). s.rows * s.cols ≤ 16384) (sym is) (omega arith)

-- the next position, round the end
next_cases : (n c : ℕ) → c < n → ((c + 1 < n) × ((c + 1) % n ≡ c + 1)) ⊎ ((c + 1 ≡ n) × ((c + 1) % n ≡ 0))
next_cases n c lt = elim (cases_lt (c + 1) n) [
  | inl less ↦ inl (less, mod-eq_of_lt less)
  | inr end ↦ let full : c + 1 ≡ n = omega (arith, end, lt) in inr (full, ap (λ m. m % n) full ∙ mod_self n)
]

next_same : (n c d : ℕ) → c < n → d < n → (c + 1) % n ≡ (d + 1) % n → c ≡ d
next_same n c d one two e = elim (next_cases n c one) [
  | inl a ↦ elim (next_cases n d two) [ inl b ↦ omega (arith, a.1, b.1, e) | inr b ↦ absurd (omega (arith, a.1, b.1, e)) ]
  | inr a ↦ elim (next_cases n d two) [ inl b ↦ absurd (omega (arith, a.1, b.1, e)) | inr b ↦ omega (arith, a.0, b.0) ]
]

places_apart : (it : Sheet) (field other : Shown) → IsFit it → IsFieldOn (cells_on it.area) field → IsFieldOn (cells_on it.area) other → Apart field other → place_of it field ≡ place_of it other → ⊥
places_apart it field other fit one two apart e =
    let same_cell = next_same (cells_on it.area) field.cell other.cell one.inside two.inside (sym (place_is it field fit one.inside) ∙ e ∙ place_is it other fit two.inside) in
    false≢true (sym apart.0 ∙ eq-eqb field.cell other.cell same_cell)

-- ---- a field that is declared
has_label : (field : Shown) → is_declared field ≡ true → 1 ≤ length field.label
has_label field declared = grind (arith, and_parts (not (length field.label == 0)) _ declared)

pub record IsDeclaredOn (it : Sheet) (field : Shown) : Type 0 where
  pub declared : is_declared field ≡ true
  pub label : 1 ≤ length field.label
  pub on : IsFieldOn (cells_on it.area) field
  pub named : IsNamedOn (cells_on it.area) field

pub all_declared : (it : Sheet) (fields : List Shown) → Each (IsFieldOn (cells_on it.area)) fields → Each (IsNamedIf (cells_on it.area)) fields → Each (IsDeclaredOn it) (filter is_declared fields)
all_declared it [] on named = tt
all_declared it (field ∷ fields) on named = elim (cases_Bool (is_declared field)) [
  | inl declared ↦ subst (Each (IsDeclaredOn it)) (sym (cond-true (is_declared field) (field ∷ filter is_declared fields) (filter is_declared fields) declared))
      (record { declared = declared; label = has_label field declared; on = on.0; named = named.0 (has_label field declared) }, all_declared it fields on.1 named.1)
  | inr other ↦ subst (Each (IsDeclaredOn it)) (sym (cond-false (is_declared field) (field ∷ filter is_declared fields) (filter is_declared fields) other)) (all_declared it fields on.1 named.1)
]

each_kept : (P : Shown → Type 0) (fields : List Shown) → Each P fields → Each P (filter is_declared fields)
each_kept P [] each = tt
each_kept P (field ∷ fields) each = elim (is_declared field) as (λ b. Each P (cond b (field ∷ filter is_declared fields) (filter is_declared fields))) [ true ↦ (each.0, each_kept P fields each.1) | false ↦ each_kept P fields each.1 ]

apart_kept : (fields : List Shown) → AreApart fields → AreApart (filter is_declared fields)
apart_kept [] apart = tt
apart_kept (field ∷ fields) apart = elim (is_declared field) as (λ b. AreApart (cond b (field ∷ filter is_declared fields) (filter is_declared fields))) [
  | true ↦ (each_kept (Apart field) fields apart.0, apart_kept fields apart.1)
  | false ↦ apart_kept fields apart.1
]

pub few_kept : (fields : List Shown) → length (filter is_declared fields) ≤ length fields
few_kept [] = omega arith
few_kept (field ∷ fields) = elim (is_declared field) as (λ b. length (cond b (field ∷ filter is_declared fields) (filter is_declared fields)) ≤ suc (length fields)) [
  | true ↦ let few = few_kept fields in omega (arith, few)
  | false ↦ let few = few_kept fields in omega (arith, few)
]

-- ---- the layout
good_screen : (screen : Size) → IsScreen screen → IsGood Bits14 screen
good_screen screen (inl is) = subst (IsGood Bits14) (sym is) (record { some_rows = omega arith; few_rows = omega arith; two_cols = omega arith; few_cols = omega arith; few_cells = omega arith })
good_screen screen (inr (inl is)) = subst (IsGood Bits14) (sym is) (record { some_rows = omega arith; few_rows = omega arith; two_cols = omega arith; few_cols = omega arith; few_cells = omega arith })
good_screen screen (inr (inr (inl is))) = subst (IsGood Bits14) (sym is) (record { some_rows = omega arith; few_rows = omega arith; two_cols = omega arith; few_cols = omega arith; few_cells = omega arith })
good_screen screen (inr (inr (inr is))) = subst (IsGood Bits14) (sym is) (record { some_rows = omega arith; few_rows = omega arith; two_cols = omega arith; few_cols = omega arith; few_cells = omega arith })

pub place_inside : (it : Sheet) (field : Shown) → IsFit it → IsFieldOn (cells_on it.area) field → place_of it field < cells_on it.area
place_inside it field fit on =
    let inside = on.inside in
    subst (λ n. n < cells_on it.area) (sym (place_is it field fit on.inside)) (mod_below (field.cell + 1) (cells_on it.area) (omega (arith, inside)))

all_map : {A B : Type 0} (P : B → Type 0) (f : A → B) (xs : List A) → Each (λ x. P (f x)) xs → All P (map f xs)
all_map P f [] each = All-nil P
all_map P f (x ∷ xs) each = All-cons P (f x) (map f xs) each.0 (all_map P f xs each.1)

each_more : {A : Type 0} (P Q : A → Type 0) (xs : List A) → ((x : A) → P x → Q x) → Each P xs → Each Q xs
each_more P Q [] more each = tt
each_more P Q (x ∷ xs) more each = (more x each.0, each_more P Q xs more each.1)

differ : {A : Type 0} (eq : A → A → Bool) → ((a b : A) → eq a b ≡ true → a ≡ b) → (a b : A) → (a ≡ b → ⊥) → eq a b ≡ false
differ eq decides a b apart = elim (cases_Bool (eq a b)) [ inl same_ ↦ absurd (apart (decides a b same_)) | inr other ↦ other ]

distinct_by : {A : Type 0} (eq : A → A → Bool) → ((a b : A) → eq a b ≡ true → a ≡ b) → (it : Sheet) (f : Shown → A) (fields : List Shown)
    → ((x y : Shown) → IsDeclaredOn it x → IsDeclaredOn it y → Apart x y → f x ≡ f y → ⊥) → Each (IsDeclaredOn it) fields → AreApart fields → IsDistinct eq (map f fields)
unfolding IsDistinct
distinct_by eq decides it f [] differs each apart = tt
distinct_by eq decides it f (x ∷ xs) differs each apart =
    (from_first xs each.1 apart.0, distinct_by eq decides it f xs differs each.1 apart.1)
  where
    from_first : (ys : List Shown) → Each (IsDeclaredOn it) ys → Each (Apart x) ys → AllByRecursion (λ y. eq (f x) y ≡ false) (map f ys)
    from_first [] known aparts = tt
    from_first (y ∷ ys) known aparts = (differ eq decides (f x) (f y) (differs x y each.0 known.0 aparts.0), from_first ys known.1 aparts.1)

bytes_decide : (as_ bs : List ℕ) → bytes_eq as_ bs ≡ true → as_ ≡ bs
bytes_decide as_ bs e = (bytes_eq-Decides as_ bs).0 e

pub is_layout : (it : Sheet) → IsFit it → IsLayout (declaration_of it)
is_layout it fit =
    let n = cells_on it.area in
    let fields = declared_fields it in
    let each = all_declared it it.fields fit.fields fit.named in
    let apart = apart_kept it.fields fit.apart in
    record {
      default = record { some_rows = omega arith; few_rows = omega arith; two_cols = omega arith; few_cols = omega arith; few_cells = omega arith };
      alternate = good_screen it.area.screen fit.ground.screen;
      screen = inr refl;
      named = all_map (λ (entry : Declared). IsTrue (is_name entry.name)) (entry_of it) fields (each_more (IsDeclaredOn it) (λ field. is_name (name_of field) ≡ true) fields (λ field is. named_well n field is.label is.named) each);
      inside = all_map (λ (entry : Declared). entry.place < n) (entry_of it) fields (each_more (IsDeclaredOn it) (λ field. place_of it field < n) fields (λ field is. place_inside it field fit is.on) each);
      long = all_map (λ (entry : Declared). (1 ≤ entry.length) × (entry.length < n)) (entry_of it) fields (each_more (IsDeclaredOn it) (λ field. (1 ≤ field.length) × (field.length < n)) fields (λ field is. (is.named.some, is.named.few)) each);
      names = subst (IsDistinct bytes_eq) (mapped_twice (λ (entry : Declared). entry.name) (entry_of it) fields) (distinct_by bytes_eq bytes_decide it name_of fields (λ x y is it_ apart_ e. names_apart n x y is.label it_.label is.named it_.named apart_ e) each apart);
      places = subst (IsDistinct nat_eq) (mapped_twice (λ (entry : Declared). entry.place) (entry_of it) fields) (distinct_by nat_eq (λ a b e. eqb-true a b e) it (place_of it) fields (λ x y is it_ apart_ e. places_apart it x y fit is.on it_.on apart_ e) each apart);
      few = let few = few_kept it.fields in let most = fit.few in let count = length_map (entry_of it) fields in omega (arith, few, most, count);
    }
  where
    mapped_twice : {A B C : Type 0} (g : B → C) (f : A → B) (xs : List A) → map (λ x. g (f x)) xs ≡ map g (map f xs)
    mapped_twice g f [] = refl
    mapped_twice g f (x ∷ xs) = ap (λ l. g (f x) ∷ l) (mapped_twice g f xs)

    length_map : {A B : Type 0} (f : A → B) (xs : List A) → length (map f xs) ≡ length xs
    length_map f [] = refl
    length_map f (x ∷ xs) = ap suc (length_map f xs)
