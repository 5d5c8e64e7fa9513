-- The fields of a map are few, named apart, and of a length that a layout takes.
use Rattle.std.proofs.Common.{◌≡◌, ◌≤◌, ◌<◌, ◌+◌, ◌-◌, ◌*◌, ◌/◌, ◌%◌, ◌^◌, ◌==◌, ℕ, zero, suc, Bool, true, false, cond, not, ◌&&◌, ◌||◌, List, [], ◌∷◌, ◌++◌, append_assoc, length, map, Option, Some, None, Result, Ok, Err, refl, sym, ◌∙◌, ap, subst, arith, inl, inr, decimal, codes}
use Rattle.std.specs.Prelude.{◌⊎◌, nat_le, nat_lt, min}
use Rattle.std.specs.List.{list_all, list_any, range_with_len}
use Rattle.std.proofs.Math.Nat.{mod-lt, mul-le-mul_right}
use Rattle.std.proofs.lemmas.Nat.{div-add-mod'}
use Rattle.std.proofs.lemmas.Fmt.{length-decimal-le}
use Rattle.std.proofs.lemmas.List.{length-append, length-map}
use Rattle.std.proofs.lemmas.List.Concat.{flat_map-append}
use Rattle.std.proofs.lemmas.List.Folds.{list_any-append}
use Rattle.std.proofs.lemmas.List.FromFn.{map-range_with_len_more}
use Rattle.std.proofs.lemmas.Bool.{ltb-false, leb-true, eqb-true, and_parts, cases_Bool, cases_lt, cond-true, cond-false}
use Rattle.ds_codec.specs.declared.size.Size.{Size}
use Rattle.ds_codec.proofs.Below.{each_below}
use Rattle.bms_source.specs.declared.letter.Letter.{Letter}
use Rattle.bms_source.specs.Statement.{Said}
use Rattle.bms_source.specs.Told.{Told, ◌>>=◌}
use Rattle.bms_source.specs.Words.{upper, upper_word, is_of_symbol, is_symbol, is_named, begins_symbol}
use Rattle.bms_map.specs.declared.macros.TheConstants.{MOST_ATTRIBUTES}
use Rattle.bms_map.specs.LayoutText.{lower, numbered}
use Rattle.bms_map.specs.Operands.{Given, is_group}
use Rattle.bms_map.specs.Lookup.{operand_at, its_value, value_at, upper_in, is_given, occurs_in, later_of, name_if}
use Rattle.bms_map.specs.Values.{if_within, number_of, number_within, ◌>>?◌}
use Rattle.bms_map.specs.Maps.{Ground}
use Rattle.bms_map.specs.Overlaps.{cell_in, last_of}
use Rattle.bms_map.specs.Entries.{Entry, Section, same, label_name, group_name, names_in, names_of, index_at, cells_from, attributes_in, attributes_of, laters, label_of as shown_label, number_of as number_at, total, shown_at, shown_from, shown_if, shown_of}
use Rattle.bms_map.specs.Fields.{unless, needed_label, field_label, label_of, unless_later, judge_conflicts, digits_for, is_short, is_taken, judge_name, last_entry, follows, end_in, bad_group, judge_end, judge_later, judge_group, judge_first, judge_entry, judge_each, judge_all, judge_occurrence, entry_of, occurs_or}
use Rattle.bms_map.specs.Fit.{Each, IsScreen, cells_on, LiesOn, IsNamedIf}
use Rattle.bms_map.proofs.FitLaws.{gave, same_ok, is_good, held, last_inside, IsEntryOn, IsJudged, each_append, each_range, columns_some, first_inside, either, within_most}

-- ---- names, none of which comes twice
pub turned : (a b : ℕ) → (a == b) ≡ (b == a)
turned a b = grind arith

pub same_turned : (as_ bs : List ℕ) → same as_ bs ≡ same bs as_
same_turned [] [] = refl
same_turned [] (b ∷ bs) = refl
same_turned (a ∷ as_) [] = refl
same_turned (a ∷ as_) (b ∷ bs) = ap (λ x. x && same as_ bs) (turned a b) ∙ ap (λ y. (b == a) && y) (same_turned as_ bs)

pub same_list : (as_ bs : List ℕ) → same as_ bs ≡ true → as_ ≡ bs
same_list [] [] e = refl
same_list [] (b ∷ bs) e = absurd cc
same_list (a ∷ as_) [] e = absurd cc
same_list (a ∷ as_) (b ∷ bs) e =
    let parts = and_parts (a == b) (same as_ bs) e in
    ap (λ x. x ∷ as_) (eqb-true a b parts.0) ∙ ap (λ l. b ∷ l) (same_list as_ bs parts.1)

-- none is equal to a later one
abbrev pub AreOnce : {A : Type 0} → (A → A → Bool) → List A → Type 0
AreOnce eq [] = Unit {0}
AreOnce eq (x ∷ xs) = (list_any (eq x) xs ≡ false) × AreOnce eq xs

no_or : (a b : Bool) → (a || b) ≡ false → (a ≡ false) × (b ≡ false)
no_or true b e = absurd cc
no_or false b e = (refl, e)

or_no : (a b : Bool) → a ≡ false → b ≡ false → (a || b) ≡ false
or_no true b one other = absurd cc
or_no false b one other = other

pub once_push : {A : Type 0} (eq : A → A → Bool) → ((a b : A) → eq a b ≡ eq b a) → (xs : List A) (y : A) → AreOnce eq xs → list_any (eq y) xs ≡ false → AreOnce eq (xs ++ y ∷ [])
once_push eq turns [] y once new = (refl, tt)
once_push eq turns (x ∷ xs) y once new =
    let parts = no_or (eq y x) (list_any (eq y) xs) new in (
      list_any-append (eq x) xs (y ∷ []) ∙ or_no (list_any (eq x) xs) (eq x y || false) once.0 (or_no (eq x y) false (turns x y ∙ parts.0) refl),
      once_push eq turns xs y once.1 parts.1,
    )

-- of two parts one has none of the other
pub once_apart : {A : Type 0} (eq : A → A → Bool) → ((a b : A) → eq a b ≡ true → a ≡ b) → (xs ys : List A) (a b : A)
    → AreOnce eq (xs ++ ys) → list_any (eq a) xs ≡ true → list_any (eq b) ys ≡ true → eq a b ≡ false
once_apart eq decides [] ys a b once here there = absurd (let wrong : false ≡ true = here in cc)
once_apart eq decides (x ∷ xs) ys a b once here there = elim (either (eq a x) (list_any (eq a) xs) here) [
  | inl is ↦
      let parts = no_or (list_any (eq x) xs) (list_any (eq x) ys) (sym (list_any-append (eq x) xs ys) ∙ once.0) in
      let none : list_any (eq a) ys ≡ false = subst (λ z. list_any (eq z) ys ≡ false) (sym (decides a x is)) parts.1 in
      elim (cases_Bool (eq a b)) [
        | inl meets ↦ absurd (let wrong : false ≡ true = sym (subst (λ z. list_any (eq z) ys ≡ false) (decides a b meets) none) ∙ there in cc)
        | inr misses ↦ misses
      ]
  | inr later ↦ once_apart eq decides xs ys a b once.1 later there
]

-- a place, asked for from the other side
abbrev pub same_place : ℕ → ℕ → Bool
same_place cell other = other == cell

pub places_decide : (a b : ℕ) → same_place a b ≡ true → a ≡ b
places_decide a b e = sym (eqb-true b a e)

-- ---- what a symbol is
small_symbol : (c : ℕ) → is_of_symbol c ≡ true → c < 128
unfolding begins_symbol
small_symbol c e = grind (arith, e)

either_way : (a b : Bool) → (not a || b) ≡ true → a ≡ true → b ≡ true
either_way true b h is = h
either_way false b h is = absurd cc

upper_symbol : (c : ℕ) → is_of_symbol c ≡ true → is_of_symbol (upper c) ≡ true
unfolding begins_symbol
upper_symbol c e = either_way (is_of_symbol c) (is_of_symbol (upper c)) (each_below (λ b. not (is_of_symbol b) || is_of_symbol (upper b)) 128 c refl (small_symbol c e)) e

and_two : (a b : Bool) → a ≡ true → b ≡ true → (a && b) ≡ true
and_two true b one other = other
and_two false b one other = absurd cc

upper_all : (word : List Letter) → list_all (λ (letter : Letter). is_of_symbol letter.code) word ≡ true → list_all is_of_symbol (upper_word word) ≡ true
upper_all [] e = refl
upper_all (letter ∷ letters) e =
    let parts = and_parts (is_of_symbol letter.code) (list_all (λ (each : Letter). is_of_symbol each.code) letters) e in
    and_two (is_of_symbol (upper letter.code)) (list_all is_of_symbol (upper_word letters)) (upper_symbol letter.code parts.0) (upper_all letters parts.1)

pub symbol_codes : (word : List Letter) → is_symbol word ≡ true → list_all is_of_symbol (upper_word word) ≡ true
symbol_codes [] e = absurd cc
symbol_codes (first ∷ rest) e = upper_all (first ∷ rest) (and_parts (begins_symbol first.code) _ e).1

-- ---- a label
record IsLabel (said : Said) (operands : List Given) (label : List ℕ) : Type 0 where
  symbol : list_all is_of_symbol label ≡ true
  some : 1 ≤ length label → (length said.label == 0) ≡ false
  given : is_given (operand_at (codes "GRPNAME") operands) ≡ true → (length said.label == 0) ≡ false

its_label : (said : Said) (most : ℕ) (label : List ℕ) → label_of said most ≡ Ok label → list_all is_of_symbol label ≡ true
its_label said most label e = elim (cases_Bool (is_symbol said.label && nat_le (length said.label) most)) [
  | inl is ↦
      let same_word : upper_word said.label ≡ label = same_ok (upper_word said.label) label (sym (cond-true (is_symbol said.label && nat_le (length said.label) most) _ _ is) ∙ e) in
      subst (λ (l : List ℕ). list_all is_of_symbol l ≡ true) same_word (symbol_codes said.label (and_parts (is_symbol said.label) _ is).0)
  | inr is ↦ absurd (let wrong = sym (cond-false (is_symbol said.label && nat_le (length said.label) most) _ _ is) ∙ e in cc)
]

needed_is : (said : Said) (operands : List Given) (most : ℕ) (label : List ℕ) → needed_label said most ≡ Ok label → IsLabel said operands label
needed_is said operands most label e = elim (cases_Bool (length said.label == 0)) [
  | inl none ↦ absurd (let wrong = sym (cond-true (length said.label == 0) _ _ none) ∙ e in cc)
  | inr some ↦ record { symbol = its_label said most label (sym (cond-false (length said.label == 0) _ _ some) ∙ e); some = λ one. some; given = λ one. some }
]

no_label : (label : List ℕ) → ◌≡◌ {A = Result (List ℕ) Told} (Ok []) (Ok label) → [] ≡ label
no_label label e = same_ok [] label e

free_is : (said : Said) (operands : List Given) (label : List ℕ) → (is_given (operand_at (codes "GRPNAME") operands) ≡ false)
    → cond (length said.label == 0) (Ok []) (label_of said 30) ≡ Ok label → IsLabel said operands label
free_is said operands label none e = elim (cases_Bool (length said.label == 0)) [
  | inl empty ↦
      let is : [] ≡ label = no_label label (sym (cond-true (length said.label == 0) _ _ empty) ∙ e) in
      subst (IsLabel said operands) is (record { symbol = refl; some = λ one. absurd (omega (arith, one)); given = λ one. absurd (let wrong : false ≡ true = sym none ∙ one in cc) })
  | inr some ↦ record { symbol = its_label said 30 label (sym (cond-false (length said.label == 0) _ _ some) ∙ e); some = λ one. some; given = λ one. some }
]

label_is : (said : Said) (operands : List Given) (label : List ℕ) → field_label said operands ≡ Ok label → IsLabel said operands label
label_is said operands label e =
    elim (is_given (operand_at (codes "OCCURS") operands)) as (λ a. cond (a || is_given (operand_at (codes "GRPNAME") operands)) (needed_label said 30) (cond (length said.label == 0) (Ok []) (label_of said 30)) ≡ Ok label → IsLabel said operands label) [
      | true ↦ λ is. needed_is said operands 30 label is
      | false ↦ λ is. elim (cases_Bool (is_given (operand_at (codes "GRPNAME") operands))) [
        | inl some ↦ needed_is said operands 30 label (sym (cond-true (is_given (operand_at (codes "GRPNAME") operands)) _ _ some) ∙ is)
        | inr none ↦ free_is said operands label none (sym (cond-false (is_given (operand_at (codes "GRPNAME") operands)) _ _ none) ∙ is)
      ]
    ] e

-- ---- OCCURS and GRPNAME exclude each other
pub named_as : (word : List Letter) (name other : List ℕ) → is_named word name ≡ true → is_named word other ≡ same name other
named_as [] [] [] e = refl
named_as [] [] (c ∷ cs) e = refl
named_as [] (n ∷ ns) other e = absurd cc
named_as (l ∷ ls) [] other e = absurd cc
named_as (l ∷ ls) (n ∷ ns) [] e = refl
named_as (l ∷ ls) (n ∷ ns) (c ∷ cs) e =
    let parts = and_parts (upper l.code == n) (is_named ls ns) e in
    ap (λ m. (m == c) && is_named ls cs) (eqb-true (upper l.code) n parts.0) ∙ ap (λ b. (n == c) && b) (named_as ls ns cs parts.1)

none_named : (there : Bool) (name : List ℕ) → name_if there name ≡ None → there ≡ false
none_named true name e = absurd cc
none_named false name e = refl

not_given : (o : Option Given) → is_given o ≡ false → o ≡ None
not_given None e = refl
not_given (Some given) e = absurd cc

given_none : (o : Option Given) (given : Given) → o ≡ Some given → is_given o ≡ false → ⊥
given_none o given is none = absurd (let wrong : true ≡ false = sym (ap is_given is) ∙ none in cc)

one_alone : (one other : List ℕ) (operands : List Given) (given : Given) → same one other ≡ false → later_of one other operands ≡ None → operand_at other operands ≡ Some given → operand_at one operands ≡ None
one_alone one other [] given apart none is = refl
one_alone one other (it ∷ others) given apart none is = elim (cases_Bool (is_named it.keyword one)) [
  | inl first ↦
      let second : is_named it.keyword other ≡ false = named_as it.keyword one other first ∙ apart in
      let absent = none_named (is_given (operand_at other others)) other (sym (cond-true (is_named it.keyword one) _ _ first) ∙ none) in
      absurd (given_none (operand_at other others) given (sym (cond-false (is_named it.keyword other) _ _ second) ∙ is) absent)
  | inr first ↦
      let rest = sym (cond-false (is_named it.keyword one) _ _ first) ∙ none in
      cond-false (is_named it.keyword one) _ _ first ∙ (elim (cases_Bool (is_named it.keyword other)) [
        | inl second ↦ not_given (operand_at one others) (none_named (is_given (operand_at one others)) one (sym (cond-true (is_named it.keyword other) _ _ second) ∙ rest))
        | inr second ↦ one_alone one other others given apart (sym (cond-false (is_named it.keyword other) _ _ second) ∙ rest) (sym (cond-false (is_named it.keyword other) _ _ second) ∙ is)
      ])
]

record NoConflict (operands : List Given) (said : Said) (n : ℕ) : Type 0 where
  groups : later_of (codes "OCCURS") (codes "GRPNAME") operands ≡ None
  stopper : ((n == 0) && not (length said.label == 0)) ≡ false

unless_none : (operands : List Given) (o : Option (List ℕ)) (u : Unit {0}) → unless_later operands o ≡ Ok u → o ≡ None
unless_none operands None u e = refl
unless_none operands (Some name) u e = absurd cc

no_conflict : (said : Said) (operands : List Given) (n : ℕ) → judge_conflicts said operands n ≡ Ok tt → NoConflict operands said n
unfolding judge_conflicts
no_conflict said operands n e =
    let parts = three (unless_later operands (later_of (codes "INITIAL") (codes "XINIT") operands)) (unless_later operands (later_of (codes "OCCURS") (codes "GRPNAME") operands)) _ e in
    record { groups = unless_none operands (later_of (codes "OCCURS") (codes "GRPNAME") operands) tt parts.0; stopper = is_good ((n == 0) && not (length said.label == 0)) _ tt parts.1 }
  where
    three : (a b c : Result (Unit {0}) Told) → (a >>= λ x. b >>= λ y. c) ≡ Ok tt → (b ≡ Ok tt) × (c ≡ Ok tt)
    three (Err told) b c is = absurd cc
    three (Ok x) (Err told) c is = absurd cc
    three (Ok x) (Ok y) c is = (refl, is)

some_length : (n : ℕ) (empty : Bool) → ((n == 0) && not empty) ≡ false → empty ≡ false → 1 ≤ n
some_length zero true e none = absurd cc
some_length zero false e none = absurd (let wrong : true ≡ false = e in cc)
some_length (suc n) empty e none = omega arith

occurs_one : (operands : List Given) → operand_at (codes "OCCURS") operands ≡ None → occurs_or (occurs_in operands) ≡ 1
occurs_one operands none = ap (λ o. occurs_or (its_value o >>? λ value. number_within value 1 1000)) none

-- ---- what a field's macro tells of names
-- what is known of GRPNAME among operands
abbrev pub IsGroupGood : List Given → Type 0
IsGroupGood operands = (given : Given) → operand_at (codes "GRPNAME") operands ≡ Some given → is_group given.value ≡ true

abbrev IsGroupName : Option (List ℕ) → ℕ → ℕ → Type 0
IsGroupName None n occurs = Unit {0}
IsGroupName (Some group) n occurs = (1 ≤ n) × (occurs ≡ 1) × (list_all is_of_symbol group ≡ true) × (length group ≤ 30)

pub record IsEntryNamed (entry : Entry) : Type 0 where
  pub few : entry.length ≤ 256
  pub most : entry.occurs ≤ 1000
  pub some : 1 ≤ length entry.label → 1 ≤ entry.length
  pub symbol : list_all is_of_symbol entry.label ≡ true
  pub short : length entry.label + digits_for entry.occurs ≤ 32
  pub group : IsGroupName entry.group entry.length entry.occurs

occurs_most : (o : Option ℕ) → ((n : ℕ) → o ≡ Some n → n ≤ 1000) → occurs_or o ≤ 1000
occurs_most None each = omega arith
occurs_most (Some n) each = each n refl

occurs_few : (operands : List Given) → occurs_or (occurs_in operands) ≤ 1000
occurs_few operands = occurs_most (occurs_in operands) (λ n e.
    let value = held (value_at (codes "OCCURS") operands) (λ v. number_within v 1 1000) n e in
    let number = held (number_of value.value) (if_within 1 1000) n value.next in
    within_most 1 1000 number.value n number.next)

group_is : (said : Said) (operands : List Given) (n : ℕ) (label : List ℕ) → IsGroupGood operands → IsLabel said operands label → NoConflict operands said n
    → (found : Option Given) → operand_at (codes "GRPNAME") operands ≡ found → IsGroupName (upper_in (its_value found)) n (occurs_or (occurs_in operands))
group_is said operands n label good is alone None e = tt
group_is said operands n label good is alone (Some given) e =
    let parts = and_parts (is_symbol given.value) (nat_le (length given.value) 30) (good given e) in (
      some_length n (length said.label == 0) alone.stopper (is.given (ap is_given e)),
      occurs_one operands (one_alone (codes "OCCURS") (codes "GRPNAME") operands given refl alone.groups e),
      symbol_codes given.value parts.0,
      subst (λ m. m ≤ 30) (sym (length-map given.value (λ (letter : Letter). upper letter.code))) (leb-true (length given.value) 30 parts.1),
    )

name_judged : (said : Said) (entries : List Entry) (label : List ℕ) (occurs : ℕ) → judge_name said entries label occurs ≡ Ok tt
    → (length label + digits_for occurs ≤ 32) × ((not (length label == 0) && is_taken (names_of entries) (map lower label)) ≡ false)
unfolding judge_name
name_judged said entries label occurs e =
    let parts = gave (unless (not (is_short label occurs)) _) (λ short. unless (not (length label == 0) && is_taken (names_of entries) (map lower label)) _) tt e in
    (leb-true (length label + digits_for occurs) 32 (not_not (is_short label occurs) (is_good (not (is_short label occurs)) _ parts.value parts.first)), is_good (not (length label == 0) && is_taken (names_of entries) (map lower label)) _ tt parts.next)
  where
    not_not : (b : Bool) → not b ≡ false → b ≡ true
    not_not true e = refl
    not_not false e = absurd cc

pub entry_named : (section : Section) (said : Said) (operands : List Given) (n : ℕ) (entry : Entry) → n ≤ 256 → IsGroupGood operands → IsJudged section said operands n entry → IsEntryNamed entry
entry_named section said operands n entry few good judged =
    let label = label_is said operands judged.label judged.labelled in
    let alone = no_conflict said operands n judged.alone in
    let named = name_judged said section.entries judged.label (occurs_or (occurs_in operands)) judged.short in
    subst IsEntryNamed (sym judged.is) (record {
      few = few;
      most = occurs_few operands;
      some = λ one. some_length n (length said.label == 0) alone.stopper (label.some one);
      symbol = label.symbol;
      short = named.0;
      group = group_is said operands n judged.label good label alone (operand_at (codes "GRPNAME") operands) refl;
    })

-- ---- groups in a row
-- a later field of a group follows the one before it
abbrev pub AreChained : Ground → Option Entry → List Entry → Type 0
AreChained area before [] = Unit {0}
AreChained area before (entry ∷ entries) = (entry.is_later ≡ true → follows area before entry ≡ true) × AreChained area (Some entry) entries

abbrev last_after : Option Entry → List Entry → Option Entry
last_after before [] = before
last_after before (entry ∷ entries) = last_after (Some entry) entries

last_same : (entry : Entry) (entries : List Entry) → last_after (Some entry) entries ≡ last_entry (entry ∷ entries)
last_same entry [] = refl
last_same entry (other ∷ others) = last_same other others

last_is_same : (entries : List Entry) → last_after None entries ≡ last_entry entries
last_is_same [] = refl
last_is_same (entry ∷ entries) = last_same entry entries

chain_push : (area : Ground) (before : Option Entry) (entries : List Entry) (entry : Entry) → AreChained area before entries
    → (entry.is_later ≡ true → follows area (last_after before entries) entry ≡ true) → AreChained area before (entries ++ entry ∷ [])
chain_push area before [] entry chain next = (next, tt)
chain_push area before (first ∷ others) entry chain next = (chain.0, chain_push area (Some first) others entry chain.1 next)

follows_is : (area : Ground) (before entry : Entry) → follows area (Some before) entry ≡ true → cell_in area entry.index ≡ end_in area before
follows_is area before entry e = eqb-true (cell_in area entry.index) (end_in area before) e

total_some : (n more cell end last : ℕ) → cell ≡ end → cell + n + more ≤ last → end + min (n + more) (2 ^ 32 - 1) ≤ last
total_some n more cell end last is le = grind (arith, is, le)

total_one : (n cell end last : ℕ) → cell ≡ end → cell + n ≤ last → end + min (n + 0) (2 ^ 32 - 1) ≤ last
total_one n cell end last is le = grind (arith, is, le)

chain_total : (area : Ground) (entry : Entry) (entries : List Entry) → AreChained area (Some entry) entries → Each (IsEntryOn area) entries
    → (total (laters entries) ≡ 0) ⊎ (end_in area entry + total (laters entries) ≤ last_of area)
chain_total area entry [] chain each = inl refl
chain_total area entry (next ∷ others) chain each =
    elim next.is_later as (λ b. next.is_later ≡ b → (total (cond b (next ∷ laters others) []) ≡ 0) ⊎ (end_in area entry + total (cond b (next ∷ laters others) []) ≤ last_of area)) [
      | true ↦ λ later.
          let here = follows_is area entry next (chain.0 later) in
          elim (chain_total area next others chain.1 each.1) [
            | inl none ↦ inr (subst (λ m. end_in area entry + min (next.length + m) (2 ^ 32 - 1) ≤ last_of area) (sym none)
                (total_one next.length (cell_in area next.index) (end_in area entry) (last_of area) here (each.0.later later)))
            | inr more ↦ inr (total_some next.length (total (laters others)) (cell_in area next.index) (end_in area entry) (last_of area) here more)
          ]
      | false ↦ λ first. inl refl
    ] refl

many_cells : (screen : Size) → IsScreen screen → 1920 ≤ screen.rows * screen.cols
many_cells screen (inl is) = subst (λ (s : Size). 1920 ≤ s.rows * s.cols) (sym is) (omega arith)
many_cells screen (inr (inl is)) = subst (λ (s : Size). 1920 ≤ s.rows * s.cols) (sym is) (omega arith)
many_cells screen (inr (inr (inl is))) = subst (λ (s : Size). 1920 ≤ s.rows * s.cols) (sym is) (omega arith)
many_cells screen (inr (inr (inr is))) = subst (λ (s : Size). 1920 ≤ s.rows * s.cols) (sym is) (omega arith)

few_one : (n more cells : ℕ) → more ≡ 0 → n ≤ 256 → 1920 ≤ cells → min (n + more) (2 ^ 32 - 1) < cells
few_one n more cells none few many = grind (arith, none, few, many)

few_more : (n more cell last cells : ℕ) → cell + n + more ≤ last → last < cells → min (n + more) (2 ^ 32 - 1) < cells
few_more n more cell last cells le lt = grind (arith, le, lt)

some_more : (n more : ℕ) → 1 ≤ n → 1 ≤ min (n + more) (2 ^ 32 - 1)
some_more n more some = grind (arith, some)

first_inside_map : (area : Ground) (entry : Entry) → IsEntryOn area entry → 0 < area.lines * area.columns
first_inside_map area entry is = let inside = is.inside in omega (arith, inside)

shown_few : (area : Ground) → LiesOn area → (entry : Entry) (entries : List Entry) → IsEntryOn area entry → IsEntryNamed entry → AreChained area (Some entry) entries → Each (IsEntryOn area) entries
    → min (entry.length + total (laters entries)) (2 ^ 32 - 1) < cells_on area
shown_few area lies entry entries is named chain each = elim (chain_total area entry entries chain each) [
  | inl none ↦ few_one entry.length (total (laters entries)) (cells_on area) none named.few (many_cells area.screen lies.screen)
  | inr more ↦ few_more entry.length (total (laters entries)) (cell_in area entry.index) (last_of area) (cells_on area) more (last_inside area lies (first_inside_map area entry is))
]

-- ---- the name of an occurrence
digits_small : (occurs k : ℕ) → 1 ≤ k → k ≤ occurs → 2 ≤ occurs → occurs ≤ 1000 → 1 + length (decimal k) ≤ digits_for occurs
digits_small occurs k some within two most =
    elim (cases_lt occurs 10) [
      | inl few ↦ subst (λ n. 1 + length (decimal k) ≤ n) (sym (cases_2 occurs two few)) (let one = length-decimal-le 1 k (omega arith) (omega (arith, within, few)) (omega (arith, within, few)) in omega (arith, one))
      | inr many ↦ elim (cases_lt occurs 100) [
        | inl few ↦ subst (λ n. 1 + length (decimal k) ≤ n) (sym (cases_3 occurs many few)) (let one = length-decimal-le 2 k (omega arith) (omega (arith, within, few)) (omega (arith, within, few)) in omega (arith, one))
        | inr more ↦ elim (cases_lt occurs 1000) [
          | inl few ↦ subst (λ n. 1 + length (decimal k) ≤ n) (sym (cases_4 occurs more few)) (let one = length-decimal-le 3 k (omega arith) (omega (arith, within, few)) (omega (arith, within, few)) in omega (arith, one))
          | inr all ↦ subst (λ n. 1 + length (decimal k) ≤ n) (sym (cases_5 occurs all)) (let one = length-decimal-le 4 k (omega arith) (omega (arith, within, most)) (omega (arith, within, most)) in omega (arith, one))
        ]
      ]
    ]
  where
    cases_2 : (n : ℕ) → 2 ≤ n → n < 10 → digits_for n ≡ 2
    cases_2 n a b = grind (arith, a, b)

    cases_3 : (n : ℕ) → 10 ≤ n → n < 100 → digits_for n ≡ 3
    cases_3 n a b = grind (arith, a, b)

    cases_4 : (n : ℕ) → 100 ≤ n → n < 1000 → digits_for n ≡ 4
    cases_4 n a b = grind (arith, a, b)

    cases_5 : (n : ℕ) → 1000 ≤ n → digits_for n ≡ 5
    cases_5 n a = grind (arith, a)

not_zero : (m : ℕ) → 1 ≤ m → (m == 0) ≡ false
not_zero m some = grind (arith, some)

occurrence_short : (n occurs k : ℕ) → n + digits_for occurs ≤ 32 → k < occurs → occurs ≤ 1000 → n + length (numbered (codes "-") [] (cond (nat_lt occurs 2) 0 (k + 1))) ≤ 32
occurrence_short n occurs k short less most = elim (cases_Bool (nat_lt occurs 2)) [
  | inl one ↦ subst (λ m. n + length (numbered (codes "-") [] m) ≤ 32) (sym (cond-true (nat_lt occurs 2) 0 (k + 1) one)) (omega (arith, short))
  | inr more ↦ subst (λ m. n + length (numbered (codes "-") [] m) ≤ 32) (sym (cond-false (nat_lt occurs 2) 0 (k + 1) more)) (long (k + 1) (omega arith)
      (let digits = digits_small occurs (k + 1) (omega arith) (omega (arith, less)) (ltb-false occurs 2 more) most in digits))
]
  where
    long : (m : ℕ) → 1 ≤ m → 1 + length (decimal m) ≤ digits_for occurs → n + length (numbered (codes "-") [] m) ≤ 32
    long m some digits =
        let is : numbered (codes "-") [] m ≡ codes "-" ++ (decimal m ++ []) = cond-false (m == 0) [] (codes "-" ++ (decimal m ++ [])) (not_zero m some) in
        let whole = length-append (decimal m) [] in
        subst (λ (l : List ℕ). n + length l ≤ 32) (sym is) (omega (arith, short, digits, whole))

occurrence_few : (occurs k : ℕ) → k < occurs → occurs ≤ 1000 → cond (nat_lt occurs 2) 0 (k + 1) ≤ 1000
occurrence_few occurs k less most = elim (nat_lt occurs 2) as (λ b. cond b 0 (k + 1) ≤ 1000) [ true ↦ omega arith | false ↦ omega (arith, less, most) ]

label_named : (entry : Entry) (k : ℕ) → IsEntryNamed entry → k < entry.occurs → (group : Option (List ℕ)) → IsGroupName group entry.length entry.occurs → 1 ≤ length (shown_label group entry.label)
    → (1 ≤ entry.length) × (list_all is_of_symbol (shown_label group entry.label) ≡ true) × (length (shown_label group entry.label) + length (numbered (codes "-") [] (number_at entry k)) ≤ 32)
label_named entry k named less None is one = (named.some one, named.symbol, occurrence_short (length entry.label) entry.occurs k named.short less named.most)
label_named entry k named less (Some group) is one = (is.0, is.2, subst (λ m. length group + length (numbered (codes "-") [] (cond (nat_lt m 2) 0 (k + 1))) ≤ 32) (sym is.1) (let few = is.3 in omega (arith, few)))

shown_named : (area : Ground) → LiesOn area → (entry : Entry) (entries : List Entry) → IsEntryOn area entry → IsEntryNamed entry → AreChained area (Some entry) entries → Each (IsEntryOn area) entries
    → (k : ℕ) → k < entry.occurs → IsNamedIf (cells_on area) (shown_at area entry (laters entries) k)
shown_named area lies entry entries is named chain each k less one =
    let known = label_named entry k named less entry.group named.group one in
    record {
      some = some_more entry.length (total (laters entries)) known.0;
      few = shown_few area lies entry entries is named chain each;
      symbol = known.1;
      short = known.2;
      number = occurrence_few entry.occurs k less named.most;
    }

pub all_named : (area : Ground) (before : Option Entry) → LiesOn area → (entries : List Entry) → Each (IsEntryOn area) entries → Each IsEntryNamed entries → AreChained area before entries → Each (IsNamedIf (cells_on area)) (shown_of area entries)
all_named area before lies [] each named chain = tt
all_named area before lies (entry ∷ entries) each named chain =
    each_append (IsNamedIf (cells_on area)) (shown_if area entry entries) (shown_of area entries)
    (elim entry.is_later as (λ b. Each (IsNamedIf (cells_on area)) (cond b [] (shown_from area entry (laters entries)))) [
      | true ↦ tt
      | false ↦ each_range (IsNamedIf (cells_on area)) (shown_at area entry (laters entries)) 0 entry.occurs (λ k less. shown_named area lies entry entries each.0 named.0 chain.1 each.1 k (omega (arith, less)))
    ])
    (all_named area (Some entry) lies entries each.1 named.1 chain.1)

-- ---- places rise with occurrences
rises : (c qi ri qj rj row cols left columns : ℕ) → qi * c + ri < qj * c + rj → ri < c → rj < c → left + c ≤ cols → row + qi ≤ row + qj → (row + qi) * cols + left + ri < (row + qj) * cols + left + rj
rises c qi ri qj rj row cols left columns less one other fits le = elim (cases_lt qi qj) [
  | inl below ↦
      let whole : (row + qi + 1) * cols ≤ (row + qj) * cols = mul-le-mul_right cols (omega (arith, below)) in
      omega (arith, whole, one, fits)
  | inr from ↦
      let same : qi ≡ qj = omega (arith, from, le) in
      let again : qi * c + ri < qi * c + rj = subst (λ q. qi * c + ri < q * c + rj) (sym same) less in
      subst (λ q. (row + qi) * cols + left + ri < (row + q) * cols + left + rj) same (omega (arith, again))
]

quotients : (c qi ri qj rj : ℕ) → qi * c + ri < qj * c + rj → rj < c → qi ≤ qj
quotients c qi ri qj rj less other = elim (cases_lt qj qi) [
  | inl below ↦
      let whole : (qj + 1) * c ≤ qi * c = mul-le-mul_right c (omega (arith, below)) in
      absurd (omega (arith, whole, less, other))
  | inr from ↦ from
]

cell_rises : (area : Ground) → LiesOn area → 0 < area.columns → (i j : ℕ) → i < j → cell_in area i < cell_in area j
cell_rises area lies some i j less =
    let c = area.columns in
    let whole : (i / c) * c + i % c < (j / c) * c + j % c = subst (λ m. m < (j / c) * c + j % c) (sym (div-add-mod' i c)) (subst (λ m. i < m) (sym (div-add-mod' j c)) less) in
    let one = mod-lt i some in
    let other = mod-lt j some in
    let le = quotients c (i / c) (i % c) (j / c) (j % c) whole other in
    rises c (i / c) (i % c) (j / c) (j % c) area.top area.screen.cols area.left c whole one other lies.across (omega (arith, le))

pub occurrence_rises : (area : Ground) → LiesOn area → (entry : Entry) → IsEntryOn area entry → (i j : ℕ) → i < j → cell_in area (index_at entry i) < cell_in area (index_at entry j)
occurrence_rises area lies entry is i j less =
    let more : (i + 1) * (entry.length + 1) ≤ j * (entry.length + 1) = mul-le-mul_right (entry.length + 1) (omega (arith, less)) in
    cell_rises area lies (columns_some entry.index area.lines area.columns (first_inside area entry is)) (index_at entry i) (index_at entry j) (omega (arith, more))

-- ---- each occurrence is judged
each_judged : (judge : ℕ → Result (Unit {0}) Told) (from n : ℕ) (u : Unit {0}) → judge_each judge (range_with_len from n) ≡ Ok u → (k : ℕ) → from ≤ k → k < from + n → judge k ≡ Ok tt
each_judged judge from zero u e k low high = absurd (omega (arith, low, high))
each_judged judge from (suc n) u e k low high =
    let parts = gave (judge from) (λ good. judge_each judge (range_with_len (from + 1) n)) u e in
    elim (cases_lt from k) [
      | inl later ↦ each_judged judge (from + 1) n u parts.next k (omega (arith, later)) (omega (arith, high))
      | inr here ↦ subst (λ (m : ℕ). judge m ≡ Ok tt) (let same : from ≡ k = omega (arith, here, low) in same) parts.first
    ]

record IsFree (area : Ground) (before : List Entry) (entry : Entry) (k : ℕ) : Type 0 where
  free : list_any (same_place (cell_in area (index_at entry k))) (attributes_of area before) ≡ false
  few : length (attributes_of area before) + k < 1000

first_two : (a b c : Result (Unit {0}) Told) → (a >>= λ x. b >>= λ y. c) ≡ Ok tt → (a ≡ Ok tt) × (b ≡ Ok tt)
first_two (Err told) b c e = absurd cc
first_two (Ok x) (Err told) c e = absurd cc
first_two (Ok x) (Ok y) c e = (refl, refl)

occurrence_free : (section : Section) (said : Said) (operands : List Given) (entry : Entry) (k : ℕ) → judge_occurrence section said operands entry k ≡ Ok tt → IsFree section.area section.entries entry k
unfolding judge_occurrence
occurrence_free section said operands entry k e =
    let parts = first_two (unless (list_any (λ cell. cell == cell_in section.area (index_at entry k)) (attributes_of section.area section.entries)) _) (unless (nat_le MOST_ATTRIBUTES (length (attributes_of section.area section.entries) + k)) _) _ e in
    record {
      free = is_good (list_any (λ cell. cell == cell_in section.area (index_at entry k)) (attributes_of section.area section.entries)) _ tt parts.0;
      few = not_most (length (attributes_of section.area section.entries) + k) (is_good (nat_le MOST_ATTRIBUTES (length (attributes_of section.area section.entries) + k)) _ tt parts.1);
    }
  where
    not_most : (n : ℕ) → nat_le 1000 n ≡ false → n < 1000
    not_most n none = grind (arith, none)

-- ---- one field more
pub record IsSectionNamed (section : Section) : Type 0 where
  pub chain : AreChained section.area None section.entries
  pub each : Each IsEntryNamed section.entries
  pub names : AreOnce same (names_of section.entries)
  pub places : AreOnce same_place (attributes_of section.area section.entries)
  pub few : length (attributes_of section.area section.entries) ≤ 1000

nil_after : {A : Type 0} (xs : List A) → xs ++ [] ≡ xs
nil_after [] = refl
nil_after (x ∷ xs) = ap (λ l. x ∷ l) (nil_after xs)

label_push : (names : List (List ℕ)) (label : List ℕ) → AreOnce same names → (not (length label == 0) && list_any (same (map lower label)) names) ≡ false → AreOnce same (names ++ label_name label)
label_push names [] once new = subst (AreOnce same) (sym (nil_after names)) once
label_push names (c ∷ cs) once new = once_push same same_turned names (map lower (c ∷ cs)) once
    (sym (ap (λ b. not b && list_any (same (map lower (c ∷ cs))) names) (not_zero (length (c ∷ cs)) (omega arith))) ∙ new)

group_push : (section : Section) (operands : List Given) (entry : Entry) (names : List (List ℕ)) (group : Option (List ℕ)) (u : Unit {0}) → names ≡ names_of section.entries ++ label_name entry.label → AreOnce same names
    → judge_group section operands entry group ≡ Ok u → AreOnce same (names ++ group_name group)
group_push section operands entry names None u is once e = subst (AreOnce same) (sym (nil_after names)) once
group_push section operands entry names (Some group) u is once e =
    let parts = gave (unless (is_taken (names_of section.entries ++ label_name entry.label) (map lower group)) _) (λ new. judge_end section.area operands entry) u e in
    let new = is_good (is_taken (names_of section.entries ++ label_name entry.label) (map lower group)) _ parts.value parts.first in
    once_push same same_turned names (map lower group) once (subst (λ (l : List (List ℕ)). list_any (same (map lower group)) l ≡ false) (sym is) new)

pub apart_less : (a b : ℕ) → a < b → (a == b) ≡ false
apart_less a b lt = grind (arith, lt)

places_push : (area : Ground) → LiesOn area → (before : List Entry) (entry : Entry) → IsEntryOn area entry → AreOnce same_place (attributes_of area before)
    → (n : ℕ) → ((k : ℕ) → k < n → IsFree area before entry k) → AreOnce same_place (attributes_of area before ++ map (λ k. cell_in area (index_at entry k)) (range_with_len 0 n))
places_push area lies before entry is once zero free = subst (AreOnce same_place) (sym (nil_after (attributes_of area before))) once
places_push area lies before entry is once (suc n) free =
    let f : ℕ → ℕ = λ k. cell_in area (index_at entry k) in
    let old = attributes_of area before in
    let done = places_push area lies before entry is once n (λ k less. free k (omega (arith, less))) in
    let pushed = once_push same_place (λ a b. turned b a) (old ++ map f (range_with_len 0 n)) (f n) done
    (list_any-append (same_place (f n)) old (map f (range_with_len 0 n)) ∙ or_no (list_any (same_place (f n)) old) _ (free n (omega arith)).free (none_own n 0 n (omega arith))) in
    subst (AreOnce same_place) (append_assoc old (map f (range_with_len 0 n)) (f n ∷ [])
    ∙ ap (λ (l : List ℕ). old ++ l) (sym (map-range_with_len_more f 0 n n (omega arith)))
    ∙ ap (λ (m : ℕ). old ++ map f (range_with_len 0 m)) (let same_n : n + 1 ≡ suc n = omega arith in same_n)) pushed
  where
    none_own : (n from count : ℕ) → from + count ≤ n → list_any (same_place (cell_in area (index_at entry n))) (map (λ k. cell_in area (index_at entry k)) (range_with_len from count)) ≡ false
    none_own n from zero le = refl
    none_own n from (suc count) le =
        let below = occurrence_rises area lies entry is from n (omega (arith, le)) in
        or_no (cell_in area (index_at entry from) == cell_in area (index_at entry n)) _ (apart_less (cell_in area (index_at entry from)) (cell_in area (index_at entry n)) below) (none_own n (from + 1) count (omega (arith, le)))

pub length_range : {A : Type 0} (f : ℕ → A) (from n : ℕ) → length (map f (range_with_len from n)) ≡ n
length_range f from zero = refl
length_range f from (suc n) = ap suc (length_range f (from + 1) n)

-- what is judged of a field that begins a group or stands alone, and of one that goes on
record IsJudgedFirst (section : Section) (operands : List Given) (entry : Entry) : Type 0 where
  group : judge_group section operands entry entry.group ≡ Ok tt
  free : (k : ℕ) → k < entry.occurs → IsFree section.area section.entries entry k

judged_first : (section : Section) (said : Said) (operands : List Given) (entry : Entry) → judge_first section said operands entry ≡ Ok tt → IsJudgedFirst section operands entry
judged_first section said operands entry e =
    let parts = gave (judge_group section operands entry entry.group) (λ good. judge_all section said operands entry) tt e in
    record {
      group = parts.first;
      free = λ k less. occurrence_free section said operands entry k (each_judged (judge_occurrence section said operands entry) 0 entry.occurs tt parts.next k (omega arith) (omega (arith, less)));
    }

follows_judged : (section : Section) (said : Said) (operands : List Given) (entry : Entry) → judge_later section said operands entry ≡ Ok tt → follows section.area (last_entry section.entries) entry ≡ true
unfolding judge_later
follows_judged section said operands entry e =
    not_not (follows section.area (last_entry section.entries) entry) (is_good (not (follows section.area (last_entry section.entries) entry)) _ tt
    (first_two (unless (not (follows section.area (last_entry section.entries) entry)) (bad_group operands)) (judge_end section.area operands entry) _ e).0)
  where
    not_not : (b : Bool) → not b ≡ false → b ≡ true
    not_not true none = refl
    not_not false none = absurd cc

some_attributes : (area : Ground) (before : List Entry) (entry : Entry) (occurs : ℕ) → 1 ≤ occurs → ((k : ℕ) → k < occurs → IsFree area before entry k) → length (attributes_of area before) + occurs ≤ 1000
some_attributes area before entry zero some free = absurd (omega (arith, some))
some_attributes area before entry (suc k) some free = let last = (free k (omega arith)).few in omega (arith, last)

names_more : (entries : List Entry) (entry : Entry) → names_of (entries ++ entry ∷ []) ≡ names_of entries ++ names_in entry
names_more entries entry = flat_map-append names_in entries (entry ∷ []) ∙ ap (λ (l : List (List ℕ)). names_of entries ++ l) (nil_after (names_in entry))

attributes_more : (area : Ground) (entries : List Entry) (entry : Entry) → attributes_of area (entries ++ entry ∷ []) ≡ attributes_of area entries ++ attributes_in area entry
attributes_more area entries entry = flat_map-append (attributes_in area) entries (entry ∷ []) ∙ ap (λ (l : List ℕ). attributes_of area entries ++ l) (nil_after (attributes_in area entry))

-- names and places with one field more
record Joins (section : Section) (entry : Entry) : Type 0 where
  names : AreOnce same (names_of section.entries ++ names_in entry)
  places : AreOnce same_place (attributes_of section.area section.entries ++ attributes_in section.area entry)
  few : length (attributes_of section.area section.entries ++ attributes_in section.area entry) ≤ 1000
  follow : entry.is_later ≡ true → follows section.area (last_entry section.entries) entry ≡ true

joins : (section : Section) (said : Said) (operands : List Given) (entry : Entry) → LiesOn section.area → IsSectionNamed section → IsEntryOn section.area entry
    → (not (length entry.label == 0) && is_taken (names_of section.entries) (map lower entry.label)) ≡ false
    → judge_entry section said operands entry ≡ Ok tt → Joins section entry
joins section said operands entry lies named is new e =
    let labelled = label_push (names_of section.entries) entry.label named.names new in
    elim (cases_Bool entry.is_later) [
      | inl later ↦ record {
        names = subst (λ (l : List (List ℕ)). AreOnce same (names_of section.entries ++ (label_name entry.label ++ l))) (sym (cond-true entry.is_later [] (group_name entry.group) later))
            (subst (λ (l : List (List ℕ)). AreOnce same (names_of section.entries ++ l)) (sym (nil_after (label_name entry.label))) labelled);
        places = subst (λ (l : List ℕ). AreOnce same_place (attributes_of section.area section.entries ++ l)) (sym (cond-true entry.is_later [] (cells_from section.area entry) later))
            (subst (AreOnce same_place) (sym (nil_after (attributes_of section.area section.entries))) named.places);
        few = subst (λ (l : List ℕ). length (attributes_of section.area section.entries ++ l) ≤ 1000) (sym (cond-true entry.is_later [] (cells_from section.area entry) later))
            (subst (λ (l : List ℕ). length l ≤ 1000) (sym (nil_after (attributes_of section.area section.entries))) named.few);
        follow = λ yes_later. follows_judged section said operands entry (sym (cond-true entry.is_later _ _ later) ∙ e);
      }
      | inr first ↦
          let judged = judged_first section said operands entry (sym (cond-false entry.is_later _ _ first) ∙ e) in
          let most = some_attributes section.area section.entries entry entry.occurs is.some judged.free in
          let whole = length-append (attributes_of section.area section.entries) (cells_from section.area entry) in
          let count = length_range (λ k. cell_in section.area (index_at entry k)) 0 entry.occurs in
          record {
            names = subst (λ (l : List (List ℕ)). AreOnce same (names_of section.entries ++ (label_name entry.label ++ l))) (sym (cond-false entry.is_later [] (group_name entry.group) first))
                (subst (AreOnce same) (append_assoc (names_of section.entries) (label_name entry.label) (group_name entry.group))
                (group_push section operands entry (names_of section.entries ++ label_name entry.label) entry.group tt refl labelled judged.group));
            places = subst (λ (l : List ℕ). AreOnce same_place (attributes_of section.area section.entries ++ l)) (sym (cond-false entry.is_later [] (cells_from section.area entry) first))
                (places_push section.area lies section.entries entry is named.places entry.occurs judged.free);
            few = subst (λ (l : List ℕ). length (attributes_of section.area section.entries ++ l) ≤ 1000) (sym (cond-false entry.is_later [] (cells_from section.area entry) first)) (omega (arith, most, whole, count));
            follow = λ later. absurd (let wrong : false ≡ true = sym first ∙ later in cc);
          }
    ]

pub section_push : (section : Section) (said : Said) (operands : List Given) (n : ℕ) (entry : Entry) → n ≤ 256 → IsGroupGood operands → LiesOn section.area → IsEntryOn section.area entry
    → IsJudged section said operands n entry → IsSectionNamed section → IsSectionNamed (record section { entries = section.entries ++ entry ∷ [] })
section_push section said operands n entry few good lies is judged named =
    let it = entry_of section said operands judged.label n judged.index in
    let fresh = (name_judged said section.entries judged.label (occurs_or (occurs_in operands)) judged.short).1 in
    let joined : Joins section entry = subst (Joins section) (sym judged.is) (joins section said operands it lies named (subst (IsEntryOn section.area) judged.is is) fresh judged.good) in
    record {
      chain = chain_push section.area None section.entries entry named.chain (λ later. ap (λ o. follows section.area o entry) (last_is_same section.entries) ∙ joined.follow later);
      each = each_append IsEntryNamed section.entries (entry ∷ []) named.each (entry_named section said operands n entry few good judged, tt);
      names = subst (AreOnce same) (sym (names_more section.entries entry)) joined.names;
      places = subst (AreOnce same_place) (sym (attributes_more section.area section.entries entry)) joined.places;
      few = subst (λ (l : List ℕ). length l ≤ 1000) (sym (attributes_more section.area section.entries entry)) joined.few;
    }
