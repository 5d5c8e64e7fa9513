-- Items laid one after the other.
use Rattle.std.proofs.Common.{◌≡◌, ℕ, zero, suc, ◌+◌, ◌<◌, ◌≤◌, List, [], ◌∷◌, ◌++◌, length, take, drop, refl, sym, ap, ◌∙◌, arith}
use Rattle.std.proofs.Common.{Bool, true, false, cond, map, ◌-◌, length-append}
use Rattle.std.specs.Prelude.{slice_set}
use Rattle.std.specs.List.{filter, range_with_len}
use Rattle.std.proofs.lemmas.List.FromFn.{length-range_with_len}
use Rattle.std.proofs.lemmas.List.{map-append, length-map}
use Rattle.ds_codec.specs.declared.cell.Cell.{Cell}
use Rattle.ds_screen.specs.declared.field.FieldAt.{FieldAt}
use Rattle.ds_screen.specs.Fields.{attributes_from, field_at, fields_of, is_attribute}
use Rattle.ds_screen.specs.Picture.{cell_at}
use Rattle.terminal_calls.specs.declared.items.TerminalField.{TerminalField}
use Rattle.terminal_calls.specs.Items.{field_told, laid}

take_none : {A : Type 0} (n : ℕ) → take {A = A} n [] ≡ []
take_none zero = refl
take_none (suc n) = refl

drop_none : {A : Type 0} (n : ℕ) → drop {A = A} n [] ≡ []
drop_none zero = refl
drop_none (suc n) = refl

pub laid_none : {A : Type 0} (old : List A) → old ≡ laid old []
laid_none old = ap (λ front. front ++ old) (sym (take_none (length old)))

laid_length : {A : Type 0} (old before : List A) → length (laid old before) ≡ length old
laid_length [] before = ap length (drop_none (length before))
laid_length (o ∷ old) [] = ap (λ front. length (front ++ (o ∷ old))) (take_none (length (o ∷ old)))
laid_length (o ∷ old) (b ∷ before) = ap suc (laid_length old before)

next_fits : {A : Type 0} (old before : List A) (one : A) → length before < length old
    → slice_set (laid old before) (length before) one ≡ laid old (before ++ one ∷ [])
next_fits [] before one lt = absurd (omega (arith, lt))
next_fits (o ∷ old) [] one lt = ap (λ front. slice_set (front ++ (o ∷ old)) 0 one) (take_none (length (o ∷ old))) ∙ ap (λ front. one ∷ (front ++ old)) (sym (take_none (length old)))
next_fits (o ∷ old) (b ∷ before) one lt = ap (λ rest. b ∷ rest) (next_fits old before one (omega (arith, lt)))

next_full : {A : Type 0} (old before : List A) (one : A) → length old ≤ length before
    → laid old before ≡ laid old (before ++ one ∷ [])
next_full [] before one full = drop_none (length before) ∙ sym (drop_none (length (before ++ one ∷ [])))
next_full (o ∷ old) [] one full = absurd (omega (arith, full))
next_full (o ∷ old) (b ∷ before) one full = ap (λ rest. b ∷ rest) (next_full old before one (omega (arith, full)))

-- one more that fits
pub laid_next : {A : Type 0} (old before now : List A) (count : ℕ) (one : A) → length before ≡ count → now ≡ laid old before → count < length now
    → slice_set now count one ≡ laid old (before ++ one ∷ [])
laid_next old before now count one many is lt =
    ap (λ place. slice_set now place one) (sym many) ∙ ap (λ list. slice_set list (length before) one) is
    ∙ next_fits old before one (omega (arith, lt, many, ap length is, laid_length old before))

-- one more that doesn't
pub laid_full : {A : Type 0} (old before now : List A) (count : ℕ) (one : A) → length before ≡ count → now ≡ laid old before → length now ≤ count
    → now ≡ laid old (before ++ one ∷ [])
laid_full old before now count one many is full =
    is ∙ next_full old before one (omega (arith, full, many, ap length is, laid_length old before))

-- ---- fields

filter_few : {A : Type 0} (test : A → Bool) (xs : List A) → length (filter test xs) ≤ length xs
filter_few test [] = omega arith
filter_few test (x ∷ xs) =
    elim (test x) as (λ b. length (cond b (x ∷ filter test xs) (filter test xs)) ≤ length (x ∷ xs)) [
      | true ↦ omega (arith, filter_few test xs)
      | false ↦ omega (arith, filter_few test xs)
    ]

-- there are no more fields than positions
pub fields_few : (cells : List Cell) → length (fields_of cells) ≤ length cells
fields_few cells =
    let many : length (fields_of cells) ≡ length (attributes_from cells 0) = length-map (attributes_from cells 0) (field_at cells) in
    let few : length (attributes_from cells 0) ≤ length (range_with_len 0 (length cells - 0)) = filter_few (λ q. is_attribute (cell_at cells q)) (range_with_len 0 (length cells - 0)) in
    omega (arith, many, few, length-range_with_len 0 (length cells - 0))

pub told_more : (before : List FieldAt) (field : FieldAt) (one : TerminalField) → one ≡ field_told field
    → map field_told before ++ one ∷ [] ≡ map field_told (before ++ field ∷ [])
told_more before field one told = ap (λ o. map field_told before ++ o ∷ []) told ∙ sym (map-append field_told before (field ∷ []))

-- fields are counted far below 2^64
pub room_left : (cells : List Cell) (before rest : List FieldAt) (count n : ℕ) → n ≡ length cells → n < 4294967296 → before ++ rest ≡ fields_of cells → count ≡ length before
    → count + 1 < 18446744073709551616
room_left cells before rest count n all few split many =
    omega (arith, all, few, many, length-append before rest, ap length split, fields_few cells)
