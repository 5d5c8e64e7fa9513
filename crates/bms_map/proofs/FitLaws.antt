-- Each map of a source is fit to be shown.
use Rattle.std.proofs.Common.{◌≡◌, ◌≤◌, ◌<◌, ◌+◌, ◌-◌, ◌*◌, ◌/◌, ◌%◌, ◌^◌, ◌==◌, ℕ, zero, suc, Bool, true, false, cond, not, ◌&&◌, ◌||◌, List, [], ◌∷◌, ◌++◌, length, map, replicate, Option, Some, None, Result, Ok, Err, refl, sym, ◌∙◌, ap, subst, arith, inl, inr, codes}
use Rattle.std.specs.Prelude.{◌⊎◌, nat_le, nat_lt, min}
use Rattle.std.specs.List.{list_all, list_any, flat_map, range_with_len}
use Rattle.std.proofs.Math.Nat.{mod-lt, mul-le-mul_right}
use Rattle.std.proofs.lemmas.Nat.{div_below}
use Rattle.std.proofs.lemmas.List.{length-append, length-replicate, append-nil}
use Rattle.std.proofs.lemmas.Bool.{ltb-true, ltb-false, leb-true, eqb-true, and_parts, cases_Bool, cond-true, cond-false}
use Rattle.ds_codec.specs.Address.{six_bit_code}
use Rattle.ds_codec.specs.Character.{is_text}
use Rattle.ds_codec.specs.Order.{last_attribute, or_else as or_else_number}
use Rattle.ds_codec.specs.Writing.{are_good_pairs}
use Rattle.ds_codec.proofs.Below.{each_below}
use Rattle.bms_source.specs.declared.letter.Letter.{Letter}
use Rattle.bms_source.specs.Statement.{Said}
use Rattle.bms_source.specs.Told.{Told, ◌>>=◌}
use Rattle.bms_map.specs.declared.macros.TheConstants.{MOST_BYTES}
use Rattle.bms_map.specs.Values.{if_within, number_of, number_within, ◌>>?◌}
use Rattle.bms_map.specs.Lists.{value_if, words_of, attribute_bits}
use Rattle.bms_map.specs.Operands.{Given}
use Rattle.bms_map.specs.Lookup.{value_at, occurs_in, bits_of, initial_in, pos_in, or_else}
use Rattle.bms_map.specs.Maps.{Ground, Shown}
use Rattle.bms_map.specs.Overlaps.{cell_in, last_of}
use Rattle.bms_map.specs.declared.field.Looks.{Looks}
use Rattle.bms_map.specs.Entries.{Entry, Section, padded, text_of, index_at, effects, pair_if, pairs_of, size_of as size_in_all, later_size, later_if, later_in, laters, total, shown_at, shown_from, shown_if, shown_of, placed, placed_all, its_cursor, cursor_of}
use Rattle.bms_map.specs.Fields.{needed, unless, if_inside, with_room, place_of, index_of, judged_place, judge_text, end_in, judge_end, judge_later, judge_first, judge_entry, judged_entry, follows, last_entry, bad_group, too_much, field_label, judge_conflicts, judge_name, entry_of, field_of, occurs_or}
use Rattle.bms_map.specs.Fit.{Each, cells_on, LiesOn, IsLaterOn, IsFieldOn, HasCursor}
use Rattle.bms_map.proofs.PairLaws.{pairs_are_good}
use Rattle.bms_map.proofs.TextsLaws.{texts_are_text}

-- ---- steps that gave a value
pub record Gave {A B : Type 0} (one : Result A Told) (then : A → Result B Told) (end : B) : Type 0 where
  pub value : A
  pub first : one ≡ Ok value
  pub next : then value ≡ Ok end

pub gave : {A B : Type 0} (first : Result A Told) (next : A → Result B Told) (end : B) → (first >>= next) ≡ Ok end → Gave first next end
gave (Ok x) next end e = record { value = x; first = refl; next = e }
gave (Err told) next end e = absurd cc

pub same_ok : {A : Type 0} (x y : A) → ◌≡◌ {A = Result A Told} (Ok x) (Ok y) → x ≡ y
same_ok x y e = cc

pub is_good : (bad : Bool) (told : Told) (u : Unit {0}) → unless bad told ≡ Ok u → bad ≡ false
is_good true told u e = absurd cc
is_good false told u e = refl

pub is_needed : {A : Type 0} (told : Told) (o : Option A) (x : A) → needed told o ≡ Ok x → o ≡ Some x
is_needed told None x e = absurd cc
is_needed told (Some y) x e = ap (λ z. Some z) (same_ok y x e)

pub same_some : {A : Type 0} (x y : A) → Some x ≡ Some y → x ≡ y
same_some x y e = cc

pub record Held {A B : Type 0} (one : Option A) (then : A → Option B) (end : B) : Type 0 where
  pub value : A
  pub first : one ≡ Some value
  pub next : then value ≡ Some end

pub held : {A B : Type 0} (first : Option A) (next : A → Option B) (end : B) → (first >>? next) ≡ Some end → Held first next end
held None next end e = absurd cc
held (Some x) next end e = record { value = x; first = refl; next = e }

-- ---- a place of a map lies on its screen
pub row_inside : (top lines rows q : ℕ) → top + lines ≤ rows → q < lines → top + q + 1 ≤ rows
row_inside top lines rows q fits less = omega arith

pub cell_below : (row rows cols left r columns : ℕ) → row + 1 ≤ rows → r < columns → left + columns ≤ cols → row * cols + left + r < rows * cols
cell_below row rows cols left r columns inside less fits =
    let whole : (row + 1) * cols ≤ rows * cols = mul-le-mul_right cols inside in
    omega (arith, whole, less, fits)

pub columns_some : (index lines columns : ℕ) → index < lines * columns → 0 < columns
columns_some index lines zero less = absurd (omega (arith, less))
columns_some index lines (suc columns) less = omega arith

pub cell_inside : (area : Ground) → LiesOn area → (index : ℕ) → index < area.lines * area.columns → cell_in area index < cells_on area
cell_inside area lies index less =
    let some = columns_some index area.lines area.columns less in
    cell_below (area.top + index / area.columns) area.screen.rows area.screen.cols area.left (index % area.columns) area.columns
    (row_inside area.top area.lines area.screen.rows (index / area.columns) lies.down (div_below index area.columns area.lines some less))
    (mod-lt index some) lies.across

pub last_inside : (area : Ground) → LiesOn area → 0 < area.lines * area.columns → last_of area < cells_on area
last_inside area lies some = cell_inside area lies (area.lines * area.columns - 1) (omega (arith, some))

-- ---- a field of a map
pub record IsEntryOn (area : Ground) (entry : Entry) : Type 0 where
  pub inside : entry.index + (entry.occurs - 1) * (entry.length + 1) < area.lines * area.columns
  pub some : 1 ≤ entry.occurs
  pub few : entry.length < 2 ^ 31
  pub six : entry.attribute < 64
  pub text : list_all is_text (text_of entry) ≡ true
  pub short : length (text_of entry) ≤ entry.length
  pub later : entry.is_later ≡ true → cell_in area entry.index + entry.length ≤ last_of area

pub value_small : (b : Bool) (n : ℕ) → value_if b n ≤ n
value_small true n = omega arith
value_small false n = omega arith

pub bits_small : (words : List (List Letter)) → attribute_bits words < 64
unfolding attribute_bits
bits_small words = sums _ _ _ _ _ (value_small _ 0x20) (value_small _ 0x10) (value_small _ 0x08) (value_small _ 0x04) (value_small _ 0x01)
  where
    sums : (a b c d e : ℕ) → a ≤ 0x20 → b ≤ 0x10 → c ≤ 0x08 → d ≤ 0x04 → e ≤ 0x01 → a + b + c + d + e < 64
    sums a b c d e one two three four five = omega (arith, one, two, three, four, five)

pub six_bits : (value : Option (List Letter)) → bits_of value < 64
six_bits None = omega arith
six_bits (Some value) = bits_small (words_of value)

pub within_least : (least most number n : ℕ) → if_within least most number ≡ Some n → least ≤ n
within_least least most number n e = elim (cases_Bool (nat_le least number && nat_le number most)) [
  | inl is ↦
      let parts = and_parts (nat_le least number) (nat_le number most) is in
      let same : number ≡ n = same_some number n (sym (cond-true (nat_le least number && nat_le number most) (Some number) None is) ∙ e) in
      subst (λ m. least ≤ m) same (leb-true least number parts.0)
  | inr is ↦ absurd (let no : None ≡ Some n = sym (cond-false (nat_le least number && nat_le number most) (Some number) None is) ∙ e in cc)
]

pub within_most : (least most number n : ℕ) → if_within least most number ≡ Some n → n ≤ most
within_most least most number n e = elim (cases_Bool (nat_le least number && nat_le number most)) [
  | inl is ↦
      let parts = and_parts (nat_le least number) (nat_le number most) is in
      let same : number ≡ n = same_some number n (sym (cond-true (nat_le least number && nat_le number most) (Some number) None is) ∙ e) in
      subst (λ m. m ≤ most) same (leb-true number most parts.1)
  | inr is ↦ absurd (let none : None ≡ Some n = sym (cond-false (nat_le least number && nat_le number most) (Some number) None is) ∙ e in cc)
]

pub occurs_some : (o : Option ℕ) → ((n : ℕ) → o ≡ Some n → 1 ≤ n) → 1 ≤ occurs_or o
occurs_some None each = omega arith
occurs_some (Some n) each = each n refl

pub occurs_good : (operands : List Given) → 1 ≤ occurs_or (occurs_in operands)
occurs_good operands = occurs_some (occurs_in operands) (λ n e.
    let value = held (value_at (codes "OCCURS") operands) (λ v. number_within v 1 1000) n e in
    let number = held (number_of value.value) (if_within 1 1000) n value.next in
    within_least 1 1000 number.value n number.next)

pub padded_short : (text : Option (List ℕ)) (n : ℕ) → ((t : List ℕ) → text ≡ Some t → length t ≤ n) → length (padded text n) ≤ n
padded_short None n each = omega arith
padded_short (Some t) n each = joined t n (each t refl)
  where
    joined : (t : List ℕ) (n : ℕ) → length t ≤ n → length (t ++ replicate (n - length t) 0x40) ≤ n
    joined t n le = let whole = length-append t (replicate (n - length t) 0x40) in let blanks = length-replicate {A = ℕ} (n - length t) 0x40 in omega (arith, le, whole, blanks)

pub text_short : (operands : List Given) (text : Option (List ℕ)) (n : ℕ) (u : Unit {0}) → judge_text operands text n ≡ Ok u → (t : List ℕ) → text ≡ Some t → length t ≤ n
text_short operands None n u e t is = absurd cc
text_short operands (Some s) n u e t is = subst (λ (l : List ℕ). length l ≤ n) (same_some s t is) (ltb-false n (length s) (is_good (nat_lt n (length s)) _ u e))

pub inside_below : (places index n : ℕ) → if_inside places index ≡ Some n → index < places
inside_below places index n e = elim (cases_Bool (nat_lt index places)) [
  | inl is ↦ ltb-true index places is
  | inr is ↦ absurd (let no : None ≡ Some n = sym (cond-false (nat_lt index places) (Some index) None is) ∙ e in cc)
]

pub room : (area : Ground) (n occurs index place : ℕ) → with_room area n occurs index ≡ Some place → place + (occurs - 1) * (n + 1) < area.lines * area.columns
room area n occurs index place e =
    let last = held (if_inside (area.lines * area.columns) (index + (occurs - 1) * (n + 1))) (λ last. Some index) place e in
    subst (λ (m : ℕ). m + (occurs - 1) * (n + 1) < area.lines * area.columns) (same_some index place last.next)
    (inside_below (area.lines * area.columns) (index + (occurs - 1) * (n + 1)) last.value last.first)

pub place_good : (area : Ground) (operands : List Given) (n index : ℕ) → judged_place area operands n ≡ Ok index
    → index + (occurs_or (occurs_in operands) - 1) * (n + 1) < area.lines * area.columns
place_good area operands n index e =
    let there = is_needed _ (place_of area operands n) index e in
    let placed = held (pos_in operands >>? index_of area) (with_room area n (occurs_or (occurs_in operands))) index there in
    room area n (occurs_or (occurs_in operands)) placed.value index placed.next

pub end_good : (area : Ground) (operands : List Given) (entry : Entry) (u : Unit {0}) → judge_end area operands entry ≡ Ok u → end_in area entry ≤ last_of area
end_good area operands entry u e = ltb-false (last_of area) (end_in area entry) (is_good (nat_lt (last_of area) (end_in area entry)) _ u e)

pub second_good : (a b c : Result (Unit {0}) Told) (u : Unit {0}) → (a >>= λ x. b >>= λ y. c) ≡ Ok u → b ≡ Ok tt
second_good (Ok x) (Ok y) c u e = refl
second_good (Ok x) (Err told) c u e = absurd cc
second_good (Err told) b c u e = absurd cc

pub later_good : (section : Section) (said : Said) (operands : List Given) (entry : Entry) (u : Unit {0}) → judge_later section said operands entry ≡ Ok u → end_in section.area entry ≤ last_of section.area
unfolding judge_later
later_good section said operands entry u e =
    end_good section.area operands entry tt
    (second_good (unless (not (follows section.area (last_entry section.entries) entry)) (bad_group operands)) (judge_end section.area operands entry)
    (unless (nat_lt MOST_BYTES (size_in_all section.entries + later_size (length (text_of entry)))) (too_much said)) u e)

pub judged_later : (section : Section) (said : Said) (operands : List Given) (entry : Entry) (u : Unit {0}) → judge_entry section said operands entry ≡ Ok u
    → entry.is_later ≡ true → end_in section.area entry ≤ last_of section.area
judged_later section said operands entry u e is =
    later_good section said operands entry u (sym (cond-true entry.is_later (judge_later section said operands entry) (judge_first section said operands entry) is) ∙ e)

-- what a field's macro tells, once it is judged
pub record IsJudged (section : Section) (said : Said) (operands : List Given) (n : ℕ) (entry : Entry) : Type 0 where
  pub label : List ℕ
  pub index : ℕ
  pub is : entry ≡ entry_of section said operands label n index
  pub text : judge_text operands (initial_in operands) n ≡ Ok tt
  pub place : judged_place section.area operands n ≡ Ok index
  pub good : judge_entry section said operands (entry_of section said operands label n index) ≡ Ok tt
  pub short : judge_name said section.entries label (occurs_or (occurs_in operands)) ≡ Ok tt
  pub labelled : field_label said operands ≡ Ok label
  pub alone : judge_conflicts said operands n ≡ Ok tt

record Stages (label : Result (List ℕ) Told) (alone text : Result (Unit {0}) Told) (place : Result ℕ Told) (named : List ℕ → Result (Unit {0}) Told)
    (judged : List ℕ → ℕ → Result Entry Told) (end : Entry) : Type 0 where
  name : List ℕ
  index : ℕ
  is_label : label ≡ Ok name
  is_alone : alone ≡ Ok tt
  is_text : text ≡ Ok tt
  is_place : place ≡ Ok index
  is_named : named name ≡ Ok tt
  is_judged : judged name index ≡ Ok end

stages : (label : Result (List ℕ) Told) (alone text : Result (Unit {0}) Told) (place : Result ℕ Told) (named : List ℕ → Result (Unit {0}) Told) (judged : List ℕ → ℕ → Result Entry Told) (end : Entry)
    → (label >>= λ l. alone >>= λ a. text >>= λ t. place >>= λ i. named l >>= λ n. judged l i) ≡ Ok end → Stages label alone text place named judged end
stages (Err told) alone text place named judged end e = absurd cc
stages (Ok l) (Err told) text place named judged end e = absurd cc
stages (Ok l) (Ok a) (Err told) place named judged end e = absurd cc
stages (Ok l) (Ok a) (Ok t) (Err told) named judged end e = absurd cc
stages (Ok l) (Ok a) (Ok t) (Ok i) named judged end e =
    let last = gave (named l) (λ n. judged l i) end e in
    record { name = l; index = i; is_label = refl; is_alone = refl; is_text = refl; is_place = refl; is_named = last.first; is_judged = last.next }

pub field_judged : (section : Section) (said : Said) (operands : List Given) (n : ℕ) (entry : Entry) → field_of section said operands n ≡ Ok entry → IsJudged section said operands n entry
unfolding field_of
field_judged section said operands n entry e =
    let all = stages (field_label said operands) (judge_conflicts said operands n) (judge_text operands (initial_in operands) n) (judged_place section.area operands n)
    (λ label. judge_name said section.entries label (occurs_or (occurs_in operands)))
    (λ label index. judged_entry section said operands (entry_of section said operands label n index)) entry e in
    let it = entry_of section said operands all.name n all.index in
    let good = gave (judge_entry section said operands it) (λ good. Ok it) entry all.is_judged in
    record {
      label = all.name;
      index = all.index;
      is = sym (same_ok it entry good.next);
      text = all.is_text;
      place = all.is_place;
      good = good.first;
      short = all.is_named;
      labelled = all.is_label;
      alone = all.is_alone;
    }

pub entry_good : (section : Section) (said : Said) (operands : List Given) (n : ℕ) (entry : Entry) → n ≤ 256 → field_of section said operands n ≡ Ok entry → IsEntryOn section.area entry
entry_good section said operands n entry few e =
    let judged = field_judged section said operands n entry e in
    subst (IsEntryOn section.area) (sym judged.is) (record {
      inside = place_good section.area operands n judged.index judged.place;
      some = occurs_good operands;
      few = omega (arith, few);
      six = six_bits (value_at (codes "ATTRB") operands);
      text = texts_are_text operands n;
      short = padded_short (initial_in operands) n (text_short operands (initial_in operands) n tt judged.text);
      later = judged_later section said operands (entry_of section said operands judged.label n judged.index) tt judged.good;
    })

-- ---- what is shown of it
pub record IsPairsOf (attribute : ℕ) (pairs : List ℕ) : Type 0 where
  pub good : (pairs ≡ []) ⊎ ((are_good_pairs pairs ≡ true) × (last_attribute pairs ≡ Some attribute))

pub six_back : (attribute : ℕ) → attribute < 64 → six_bit_code attribute % 64 ≡ attribute
unfolding six_bit_code
six_back attribute small = eqb-true (six_bit_code attribute % 64) attribute (each_below (λ n. six_bit_code n % 64 == n) 64 attribute refl small)

abbrev HasNone : List ℕ → Type 0
HasNone pairs = last_attribute pairs ≡ None

pub one_more : (kind : ℕ) (value : Option ℕ) (pairs : List ℕ) → (kind == 0xC0) ≡ false → HasNone pairs → HasNone (pair_if kind value ++ pairs)
one_more kind None pairs other none = none
one_more kind (Some v) pairs other none = elim (v == 0) as (λ b. HasNone (cond b [] (kind ∷ v ∷ []) ++ pairs)) [
  | true ↦ none
  | false ↦ ap (λ o. or_else_number o (cond (kind == 0xC0) (Some (v % 64)) None)) none ∙ cond-false (kind == 0xC0) (Some (v % 64)) None other
]

pub its_attribute : (attribute : ℕ) (looks : Looks) → attribute < 64
    → last_attribute ((0xC0 ∷ six_bit_code attribute ∷ []) ++ (pair_if 0x41 looks.highlight ++ (pair_if 0x42 looks.color ++ (pair_if 0xC1 looks.validation ++ pair_if 0xC2 looks.outline)))) ≡ Some attribute
its_attribute attribute looks small =
    let last : HasNone (pair_if 0xC2 looks.outline ++ []) = one_more 0xC2 looks.outline [] refl refl in
    let outline : HasNone (pair_if 0xC2 looks.outline) = subst HasNone (append-nil (pair_if 0xC2 looks.outline)) last in
    let none = one_more 0x41 looks.highlight _ refl (one_more 0x42 looks.color _ refl (one_more 0xC1 looks.validation _ refl outline)) in
    ap (λ o. or_else_number o (Some (six_bit_code attribute % 64))) none ∙ ap (λ n. Some n) (six_back attribute small)

pub pairs_good : (attribute : ℕ) (looks : Looks) → attribute < 64 → IsPairsOf attribute (pairs_of attribute looks)
pairs_good attribute looks small = elim (effects looks == 0) as (λ b. (effects looks == 0) ≡ b → IsPairsOf attribute (pairs_of attribute looks)) [
  | true ↦ λ e. record { good = inl (cond-true (effects looks == 0) _ _ e) }
  | false ↦ λ e. record {
    good = inr (
      elim (pairs_are_good attribute looks) [
        | inl none ↦ absurd (let no : 0xC0 ∷ _ ≡ [] = sym (cond-false (effects looks == 0) _ _ e) ∙ none in cc)
        | inr good ↦ good
      ],
      ap last_attribute (cond-false (effects looks == 0) _ _ e) ∙ its_attribute attribute looks small,
    );
  }
] refl

-- ---- an occurrence
pub occurrence_inside : (index occurs n k most : ℕ) → 1 ≤ occurs → index + (occurs - 1) * (n + 1) < most → k < occurs → index + k * (n + 1) < most
occurrence_inside index occurs n k most some inside less =
    let before : k * (n + 1) ≤ (occurs - 1) * (n + 1) = mul-le-mul_right (n + 1) (omega (arith, less)) in
    omega (arith, before, inside)

pub occurrence_at : (area : Ground) (entry : Entry) → IsEntryOn area entry → (k : ℕ) → k < entry.occurs → index_at entry k < area.lines * area.columns
occurrence_at area entry is k less = occurrence_inside entry.index entry.occurs entry.length k (area.lines * area.columns) is.some is.inside less

pub first_inside : (area : Ground) (entry : Entry) → IsEntryOn area entry → entry.index < area.lines * area.columns
first_inside area entry is = let inside = is.inside in omega (arith, inside)

pub later_on : (cells cell : ℕ) (text : List ℕ) → list_all is_text text ≡ true → (1 ≤ length text → cell + 1 < cells) → Each (IsLaterOn cells) (later_if cell text)
later_on cells cell [] all inside = tt
later_on cells cell (c ∷ cs) all inside = (record { inside = inside (omega arith); text = all }, tt)

pub later_entry : (area : Ground) → LiesOn area → (entry : Entry) → IsEntryOn area entry → entry.is_later ≡ true → Each (IsLaterOn (cells_on area)) (later_in area entry)
later_entry area lies entry is later =
    let end = is.later later in
    let first = first_inside area entry is in
    let last : last_of area < cells_on area = last_inside area lies (omega (arith, first)) in
    later_on (cells_on area) (cell_in area entry.index) (text_of entry) is.text (λ some. next (cell_in area entry.index) entry.length (length (text_of entry)) (last_of area) (cells_on area) is.short some end last)
  where
    next : (cell n characters last cells : ℕ) → characters ≤ n → 1 ≤ characters → cell + n ≤ last → last < cells → cell + 1 < cells
    next cell n characters last cells short some end inside = omega (arith, short, some, end, inside)

pub each_append : {A : Type 0} (P : A → Type 0) (xs ys : List A) → Each P xs → Each P ys → Each P (xs ++ ys)
each_append P [] ys first others = others
each_append P (x ∷ xs) ys first others = (first.0, each_append P xs ys first.1 others)

pub laters_on : (area : Ground) → LiesOn area → (entries : List Entry) → Each (IsEntryOn area) entries → Each (IsLaterOn (cells_on area)) (flat_map (later_in area) (laters entries))
laters_on area lies [] each = tt
laters_on area lies (entry ∷ entries) each =
    elim entry.is_later as (λ b. entry.is_later ≡ b → Each (IsLaterOn (cells_on area)) (flat_map (later_in area) (cond b (entry ∷ laters entries) []))) [
      | true ↦ λ e. each_append (IsLaterOn (cells_on area)) (later_in area entry) (flat_map (later_in area) (laters entries)) (later_entry area lies entry each.0 e) (laters_on area lies entries each.1)
      | false ↦ λ e. tt
    ] refl

pub short_enough : (characters n more : ℕ) → n < 2 ^ 31 → characters ≤ n → characters ≤ min (n + more) (2 ^ 32 - 1)
short_enough characters n more few short = grind (arith, few, short)

pub shown_on : (area : Ground) → LiesOn area → (entry : Entry) → IsEntryOn area entry → (entries : List Entry) → Each (IsEntryOn area) entries
    → (k : ℕ) → k < entry.occurs → IsFieldOn (cells_on area) (shown_at area entry (laters entries) k)
shown_on area lies entry is entries each k less =
    record {
      inside = cell_inside area lies (index_at entry k) (occurrence_at area entry is k less);
      six = is.six;
      pairs = (pairs_good entry.attribute entry.looks is.six).good;
      text = is.text;
      short = short_enough (length (text_of entry)) entry.length (total (laters entries)) is.few is.short;
      later = laters_on area lies entries each;
    }

pub each_range : {A : Type 0} (P : A → Type 0) (f : ℕ → A) (from n : ℕ) → ((k : ℕ) → k < from + n → P (f k)) → Each P (map f (range_with_len from n))
each_range P f from zero all = tt
each_range P f from (suc n) all = (all from (omega arith), each_range P f (from + 1) n (λ k less. all k (omega (arith, less))))

pub shown_all : (area : Ground) → LiesOn area → (entries : List Entry) → Each (IsEntryOn area) entries → Each (IsFieldOn (cells_on area)) (shown_of area entries)
shown_all area lies [] each = tt
shown_all area lies (entry ∷ entries) each =
    each_append (IsFieldOn (cells_on area)) (shown_if area entry entries) (shown_of area entries)
    (elim entry.is_later as (λ b. Each (IsFieldOn (cells_on area)) (cond b [] (shown_from area entry (laters entries)))) [
      | true ↦ tt
      | false ↦ each_range (IsFieldOn (cells_on area)) (shown_at area entry (laters entries)) 0 entry.occurs (λ k less. shown_on area lies entry each.0 entries each.1 k (omega (arith, less)))
    ])
    (shown_all area lies entries each.1)

-- ---- in the order of their attributes
pub each_placed : (P : Shown → Type 0) (field : Shown) (fields : List Shown) → P field → Each P fields → Each P (placed field fields)
each_placed P field [] one all = (one, tt)
each_placed P field (other ∷ others) one all = elim (nat_lt field.cell other.cell) as (λ b. Each P (cond b (field ∷ other ∷ others) (other ∷ placed field others))) [
  | true ↦ (one, all)
  | false ↦ (all.0, each_placed P field others one all.1)
]

pub each_in_order : (P : Shown → Type 0) (done fields : List Shown) → Each P done → Each P fields → Each P (placed_all done fields)
each_in_order P done [] each all = each
each_in_order P done (field ∷ fields) each all = each_in_order P (placed field done) fields (each_placed P field done all.0 each) all.1

pub either : (a b : Bool) → (a || b) ≡ true → (a ≡ true) ⊎ (b ≡ true)
either true b e = inl refl
either false b e = inr e

pub or_first : (a b : Bool) → a ≡ true → (a || b) ≡ true
or_first true b e = refl
or_first false b e = absurd cc

pub or_second : (a b : Bool) → b ≡ true → (a || b) ≡ true
or_second true b e = refl
or_second false b e = e

pub swapped : (a b c : Bool) → (a || (b || c)) ≡ true → (b || (a || c)) ≡ true
swapped true true c e = refl
swapped true false c e = refl
swapped false true c e = refl
swapped false false c e = e

pub any_placed : (test : Shown → Bool) (field : Shown) (fields : List Shown) → (test field || list_any test fields) ≡ true → list_any test (placed field fields) ≡ true
any_placed test field [] e = e
any_placed test field (other ∷ others) e = elim (nat_lt field.cell other.cell) as (λ b. list_any test (cond b (field ∷ other ∷ others) (other ∷ placed field others)) ≡ true) [
  | true ↦ e
  | false ↦ elim (either (test other) (test field || list_any test others) (swapped (test field) (test other) (list_any test others) e)) [
    | inl here ↦ or_first (test other) _ here
    | inr later ↦ or_second (test other) _ (any_placed test field others later)
  ]
]

pub any_in_order : (test : Shown → Bool) (done fields : List Shown) → (list_any test done || list_any test fields) ≡ true → list_any test (placed_all done fields) ≡ true
any_in_order test done [] e = elim (either (list_any test done) false e) [ inl is ↦ is | inr other ↦ absurd (let n : false ≡ true = other in cc) ]
any_in_order test done (field ∷ fields) e =
    any_in_order test (placed field done) fields
    (elim (either (list_any test done) (test field || list_any test fields) e) [
      | inl is ↦ or_first _ (list_any test fields) (any_placed test field done (or_second (test field) (list_any test done) is))
      | inr is ↦ elim (either (test field) (list_any test fields) is) [
        | inl here ↦ or_first _ (list_any test fields) (any_placed test field done (or_first (test field) (list_any test done) here))
        | inr later ↦ or_second _ (list_any test fields) later
      ]
    ])

-- ---- the cursor
pub any_append : (test : Shown → Bool) (xs ys : List Shown) → (list_any test xs || list_any test ys) ≡ true → list_any test (xs ++ ys) ≡ true
any_append test [] ys e = e
any_append test (x ∷ xs) ys e = elim (test x) as (λ b. ((b || list_any test xs) || list_any test ys) ≡ true → (b || list_any test (xs ++ ys)) ≡ true) [
  | true ↦ λ is. refl
  | false ↦ λ is. any_append test xs ys is
] e

pub any_range : {A : Type 0} (test : A → Bool) (f : ℕ → A) (from n k : ℕ) → from ≤ k → k < from + n → test (f k) ≡ true → list_any test (map f (range_with_len from n)) ≡ true
any_range test f from zero k low high is = absurd (omega (arith, low, high))
any_range test f from (suc n) k low high is = elim (cases_Bool (from == k)) [
  | inl here ↦ or_first (test (f from)) _ (subst (λ (j : ℕ). test (f j) ≡ true) (sym (eqb-true from k here)) is)
  | inr other ↦ or_second (test (f from)) _ (any_range test f (from + 1) n k (more from k low other) (omega (arith, high)) is)
]
  where
    more : (from k : ℕ) → from ≤ k → (from == k) ≡ false → from + 1 ≤ k
    more from k low other = grind (arith, low, other)

pub same_number : (n : ℕ) → (n == n) ≡ true
same_number n = grind arith

pub cursor_at : (area : Ground) (entry : Entry) (entries : List Entry) (cell : ℕ) → 1 ≤ entry.occurs → its_cursor area entry ≡ Some cell
    → list_any (λ (field : Shown). cell == field.cell) (shown_if area entry entries) ≡ true
cursor_at area entry entries cell some e = by_cases entry.has_cursor entry.is_later e
  where
    by_cases : (has later : Bool) → cond (has && not later) (Some (cell_in area (index_at entry (entry.occurs - 1)))) None ≡ Some cell
        → list_any (λ (field : Shown). cell == field.cell) (cond later [] (shown_from area entry (laters entries))) ≡ true
    by_cases false later e = absurd cc
    by_cases true true e = absurd cc
    by_cases true false e =
        any_range (λ (field : Shown). cell == field.cell) (shown_at area entry (laters entries)) 0 entry.occurs (entry.occurs - 1) (omega arith) (omega (arith, some))
        (subst (λ (c : ℕ). (cell == c) ≡ true) (sym (same_some (cell_in area (index_at entry (entry.occurs - 1))) cell e)) (same_number cell))

pub cursor_on : (area : Ground) (entries : List Entry) (cell : ℕ) → Each (IsEntryOn area) entries → cursor_of area entries ≡ Some cell
    → list_any (λ (field : Shown). cell == field.cell) (shown_of area entries) ≡ true
cursor_on area [] cell each e = absurd cc
cursor_on area (entry ∷ entries) cell each e =
    any_append (λ (field : Shown). cell == field.cell) (shown_if area entry entries) (shown_of area entries)
    (elim (which (cursor_of area entries) (its_cursor area entry) e) [
      | inl later ↦ or_second (list_any (λ (field : Shown). cell == field.cell) (shown_if area entry entries)) _ (cursor_on area entries cell each.1 later)
      | inr here ↦ or_first _ (list_any (λ (field : Shown). cell == field.cell) (shown_of area entries)) (cursor_at area entry entries cell each.0.some here)
    ])
  where
    which : (a b : Option ℕ) → or_else a b ≡ Some cell → (a ≡ Some cell) ⊎ (b ≡ Some cell)
    which None b e = inr e
    which (Some n) b e = inl e

pub has_cursor : (cursor : Option ℕ) (fields : List Shown) → ((cell : ℕ) → cursor ≡ Some cell → list_any (λ (field : Shown). cell == field.cell) fields ≡ true) → HasCursor cursor fields
has_cursor None fields each = tt
has_cursor (Some cell) fields each = each cell refl
