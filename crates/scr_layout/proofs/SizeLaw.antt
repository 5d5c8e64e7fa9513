-- A size has one spelling.
use Rattle.std.proofs.Common.{◌≡◌, ◌≢◌, ◌∙◌, ℕ, suc, ◌+◌, ◌^◌, ◌<◌, ◌≤◌, Bool, true, false, ◌&&◌, ◌||◌, ◌==◌, not, cond, decimal, length, get_or, List, [], ◌∷◌, ◌++◌, length-append, Some, ap, sym, refl, arith, le-leb, nat_le, nat_lt}
use Rattle.std.specs.List.{list_any, position_or_len, before_first, after_first}
use Rattle.std.specs.Str.{all_ascii_digits}
use Rattle.std.specs.Str.Parse.{digits_value}
use Rattle.std.proofs.lemmas.Bool.{and_parts, leb-true, ltb-true, lt-ltb, eqb-true}
use Rattle.std.proofs.lemmas.Fmt.{decimal-digits_value, digits_decimal, digits_value-decimal, first_decimal}
use Rattle.std.proofs.lemmas.List.{take_at, get_or_append_left}
use Rattle.std.proofs.lemmas.List.Sums.{split_at_first, position_or_len_is, passes_at_first}
use Rattle.std.proofs.Math.Seq.{drop-append-add}
use Rattle.std.proofs.lemmas.Str.Parse.{not_in_digits}
use Rattle.ds_codec.specs.declared.size.Size.{Size}
use Rattle.ds_codec.specs.declared.size.Mode.{Mode}
use Rattle.ds_codec.specs.Geometry.{IsGood, cells_of, limit_of, is_good}
use Rattle.scr_layout.specs.SizeText.{is_x, number_of, size_of_text, size_text}
use Rattle.scr_layout.proofs.Sizes.{own, list_any-some}
use Rattle.scr_layout.proofs.Steps.{cond_some, cond_then, and_then_some}

number_of-decimal : (digits : List ℕ) (n : ℕ) → number_of digits ≡ Some n → digits ≡ decimal n
unfolding number_of
number_of-decimal digits n h =
    let found = cond_some ((nat_le 49 (get_or digits 0 0) && all_ascii_digits digits) && nat_lt (digits_value 10 digits) (2 ^ 16)) (digits_value 10 digits) n h in
    let parts = and_parts (nat_le 49 (get_or digits 0 0) && all_ascii_digits digits) _ found.0 in
    let first = and_parts (nat_le 49 (get_or digits 0 0)) _ parts.0 in
    let low : 49 ≤ get_or digits 0 0 = leb-true 49 _ first.0 in
    let small : digits_value 10 digits < 2 ^ 16 = ltb-true _ _ parts.1 in
    sym (ap decimal (sym found.1) ∙ decimal-digits_value own digits first.1 (some digits low) (λ e. absurd (omega arith)) (omega arith)) where
      some : (ds : List ℕ) → 49 ≤ get_or ds 0 0 → 0 < length ds
      some [] low = absurd (omega arith)
      some (d ∷ ds) low = omega arith

decimal-number_of : (n : ℕ) → 0 < n → n < 2 ^ 16 → number_of (decimal n) ≡ Some n
unfolding number_of
decimal-number_of n some small =
    let first : 49 ≤ get_or (decimal n) 0 0 = first_decimal n some (omega arith) in
    let value : digits_value 10 (decimal n) ≡ n = digits_value-decimal own n (omega arith) in
    rw (le-leb 49 (get_or (decimal n) 0 0) first, digits_decimal own n (omega arith), value, lt-ltb n (2 ^ 16) small)

first_within : (p : ℕ → Bool) (xs : List ℕ) → list_any p xs ≡ true → position_or_len p xs < length xs
first_within p [] h = absurd (cc)
first_within p (x ∷ xs) h = step (p x) (list_any p xs) (position_or_len p xs) (length xs) h (first_within p xs) where
  step : (b more : Bool) (n m : ℕ) → (b || more) ≡ true → (more ≡ true → n < m) → cond (not b) (1 + n) 0 < suc m
  step true more n m h ih = omega arith
  step false more n m h ih = let below = ih h in omega arith

-- the text around its first x
around : (text : List ℕ) → list_any is_x text ≡ true → text ≡ before_first is_x text ++ (120 ∷ after_first is_x text)
around text h =
    let within = first_within is_x text h in
    let x = eqb-true _ 120 (passes_at_first is_x text 0 within) in
    split_at_first is_x text 0 within ∙ ap (λ c. before_first is_x text ++ (c ∷ after_first is_x text)) x

is_good-from_IsGood : (mode : Mode) (s : Size) → IsGood mode s → is_good mode s ≡ true
is_good-from_IsGood mode s g =
    rw (le-leb 1 s.rows g.some_rows, le-leb s.rows 255 g.few_rows, le-leb 2 s.cols g.two_cols, le-leb s.cols 255 g.few_cols, le-leb (cells_of s) (limit_of mode) g.few_cells)

pub size_of_text-spelled : (mode : Mode) (text : List ℕ) (s : Size) → size_of_text mode text ≡ Some s → text ≡ size_text s
unfolding size_of_text
size_of_text-spelled mode text s h =
    let found = cond_then (list_any is_x text) _ s h in
    let rows = and_then_some (number_of (before_first is_x text)) _ s found.1 in
    let cols = and_then_some (number_of (after_first is_x text)) _ s rows.2 in
    let made : Size = record { rows = rows.0; cols = cols.0 } in
    let last = cond_some (is_good mode made) made s cols.2 in
    let front : before_first is_x text ≡ decimal rows.0 = number_of-decimal _ rows.0 rows.1 in
    let back : after_first is_x text ≡ decimal cols.0 = number_of-decimal _ cols.0 cols.1 in
    around text found.0 ∙ ap (λ xs. xs ++ (120 ∷ after_first is_x text)) front ∙ ap (λ ys. decimal rows.0 ++ (120 ∷ ys)) back ∙ ap size_text last.1

no_x : (b : Bool) (c : ℕ) → (c == 120) ≡ b → c ≢ 120 → b ≡ false
no_x true c e h = absurd (h (eqb-true c 120 e))
no_x false c e h = refl

x_at : (ds es : List ℕ) → is_x (get_or (ds ++ (120 ∷ es)) (length ds) 0) ≡ true
x_at [] es = refl
x_at (d ∷ ds) es = x_at ds es

first_x : (ds es : List ℕ) → all_ascii_digits ds ≡ true → position_or_len is_x (ds ++ (120 ∷ es)) ≡ length ds
first_x ds es digits = position_or_len_is is_x (ds ++ (120 ∷ es)) (length ds) 0 (omega (arith, length-append ds (120 ∷ es)))
    (λ k h. no_x _ _ refl (other k h)) (λ _. x_at ds es) where
      other : (k : ℕ) → k < length ds → get_or (ds ++ (120 ∷ es)) k 0 ≢ 120
      other k h e = not_in_digits own ds 120 digits (λ within. omega arith) k h (sym (get_or_append_left ds (120 ∷ es) 0 k h) ∙ e)

pub size_text-read : (mode : Mode) (s : Size) → IsGood mode s → size_of_text mode (size_text s) ≡ Some s
unfolding size_of_text
size_text-read mode s g =
    let ds = decimal s.rows in
    let es = decimal s.cols in
    let at = first_x ds es (digits_decimal own s.rows (omega (arith, g.few_rows))) in
    let any : list_any is_x (ds ++ (120 ∷ es)) ≡ true = list_any-some is_x (ds ++ (120 ∷ es)) (omega (arith, at, length-append ds (120 ∷ es))) in
    let front : before_first is_x (ds ++ (120 ∷ es)) ≡ ds = rw at (take_at ds (120 ∷ es) (length ds) refl) in
    let back : after_first is_x (ds ++ (120 ∷ es)) ≡ es = rw at (drop-append-add ds (120 ∷ es) 1) in
    rw (any, front, back, decimal-number_of s.rows g.some_rows (omega (arith, g.few_rows)), decimal-number_of s.cols (omega (arith, g.two_cols)) (omega (arith, g.few_cols)), is_good-from_IsGood mode s g)
