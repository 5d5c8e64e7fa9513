-- The texts of sizes.
use Rattle.std.proofs.Common.{◌≡◌, ◌≢◌, ℕ, suc, ◌+◌, ◌^◌, ◌<◌, ◌≤◌, Bool, true, false, ◌&&◌, ◌||◌, not, cond, length, get_or, List, [], ◌∷◌, Some, None, Result, Ok, Err, arith, refl, le-leb}
use Rattle.std.specs.List.{list_any, position_or_len}
use Rattle.std.specs.Str.{all_ascii_digits}
use Rattle.std.specs.Str.Parse.{digits_value, ParsesUnsigned}
use Rattle.std.specs.Result.{result_ok, OkIff}
use Rattle.std.proofs.lemmas.Bool.{lt-leb, lt-ltb, ltb-true}
use Rattle.std.proofs.lemmas.Str.Parse.{IsNumeralModel, numerals_by_value, tells_all_ascii_digits, parse_plain}
use Rattle.scr_layout.specs.SizeText.{number_of}

pub own : IsNumeralModel (λ ds. all_ascii_digits ds ≡ true) (digits_value 10)
own = numerals_by_value _ tells_all_ascii_digits

refused : (a b c : Bool) (x : ℕ) → (a ≡ true → b ≡ true → c ≡ true → ⊥) → None ≡ cond ((a && b) && c) (Some x) None
refused true true true x h = absurd (h refl refl refl)
refused true true false x h = refl
refused true false c x h = refl
refused false b c x h = refl

number_from_result : {E : Type 0} (digits : List ℕ) (r : Result ℕ E) → 49 ≤ get_or digits 0 0
    → OkIff r ((all_ascii_digits digits ≡ true) × (0 < length digits) × (digits_value 10 digits < 2 ^ 16)) (digits_value 10 digits)
    → result_ok r ≡ number_of digits
unfolding number_of
number_from_result digits (Ok x) low h = rw (le-leb 49 (get_or digits 0 0) low, h.0.0, lt-ltb _ _ h.0.2, h.1)
number_from_result digits (Err e) low h = refused _ _ _ _ (λ a b c. h (b, some digits low, ltb-true _ _ c)) where
  some : (ds : List ℕ) → 49 ≤ get_or ds 0 0 → 0 < length ds
  some [] low = absurd (omega arith)
  some (d ∷ ds) low = omega arith

-- digits that begin with 1 to 9, and so with no `+`
pub number_of-parse : {E : Type 0} (digits : List ℕ) (r : Result ℕ E) → 49 ≤ get_or digits 0 0 → ParsesUnsigned 16 10 digits r → result_ok r ≡ number_of digits
number_of-parse digits r low h =
    let plain : get_or digits 0 0 ≢ 43 = omega arith in
    number_from_result digits r low (parse_plain own 16 digits r h plain)

all_below : (digits : List ℕ) → all_ascii_digits digits ≡ true → 57 < get_or digits 0 0 → ⊥
all_below [] all high = omega arith
all_below (d ∷ ds) all high = omega (arith, (tells_all_ascii_digits.parts d ds all).0)

pub number_of-low : (digits : List ℕ) → get_or digits 0 0 < 49 → None ≡ number_of digits
unfolding number_of
number_of-low digits low = rw (lt-leb 49 (get_or digits 0 0) low)

pub number_of-high : (digits : List ℕ) → 57 < get_or digits 0 0 → None ≡ number_of digits
unfolding number_of
number_of-high digits high = refused _ _ _ _ (λ a b c. all_below digits b high)

more_than : (b : Bool) (n m : ℕ) → cond (not b) (1 + n) 0 ≡ suc m → (b ≡ false) × (n ≡ m)
more_than true n m h = absurd (omega arith)
more_than false n m h = (refl, omega arith)

pub list_any-none : (p : ℕ → Bool) (xs : List ℕ) → position_or_len p xs ≡ length xs → list_any p xs ≡ false
list_any-none p [] h = refl
list_any-none p (x ∷ xs) h =
    let parts = more_than (p x) (position_or_len p xs) (length xs) h in
    rw (parts.0, list_any-none p xs parts.1)

fewer_than : (b : Bool) (n m : ℕ) → cond (not b) (1 + n) 0 < suc m → b ≡ false → n < m
fewer_than true n m h e = cc
fewer_than false n m h e = omega arith

first_or : (b : Bool) (more : Bool) → (b ≡ false → more ≡ true) → (b || more) ≡ true
first_or true more h = refl
first_or false more h = h refl

pub list_any-some : (p : ℕ → Bool) (xs : List ℕ) → position_or_len p xs < length xs → list_any p xs ≡ true
list_any-some p [] h = absurd (omega arith)
list_any-some p (x ∷ xs) h = first_or (p x) (list_any p xs) (λ e. list_any-some p xs (fewer_than (p x) _ _ h e))
