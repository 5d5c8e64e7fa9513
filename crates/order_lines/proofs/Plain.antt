-- Words consist of plain characters: from the space up to the last of ASCII.
use Rattle.std.proofs.Common.{◌≡◌, ◌<◌, ◌≤◌, ℕ, suc, ◌+◌, ◌*◌, ◌/◌, ◌%◌, ◌^◌, Bool, true, false, ◌&&◌, ◌==◌, ltb, List, [], ◌∷◌, ◌++◌, length, take, drop, slice_index, slice_set, codes, refl, ap, ◌∙◌, arith, rules}
use Rattle.std.specs.Fmt.{decimal, digit_glyph}
use Rattle.std.specs.Char.{is_ascii_digit}
use Rattle.std.specs.Str.{all_ascii_digits, IsAscii}
use Rattle.std.proofs.lemmas.Bool.{eqb-true, ltb-true}
use Rattle.std.proofs.lemmas.Bool.Decides.{nat_tests}
use Rattle.std.proofs.lemmas.Fmt.{digits_decimal}
use Rattle.std.proofs.lemmas.Str.Parse.{numerals_by_value, tells_all_ascii_digits, IsNumeralModel}
use Rattle.std.specs.Str.Parse.{digits_value}
use Rattle.std.proofs.lemmas.Str.{IsAscii-append}
use Rattle.std.proofs.lemmas.Str.Ascii.{IsAscii-from_reads}
use Rattle.std.proofs.lemmas.List.Folds.{list_all-append}
use Rattle.std.proofs.Math.Seq.{take-append_seam, take-append-add}
use Rattle.std.proofs.lemmas.List.{length-append, length-drop, take-append-le, take_more_set}
use borrow.Rule.Slice.PartMut.{put_mid}
use Rattle.hex.specs.Hex.{IsBytes, encode_with, encode_upper, upper_digits}
use Rattle.hex.proofs.HexLemmas.{length-encode_with, IsAscii-encode_with}
use Rattle.ds_codec.proofs.Below.{each_below, both_true}
use Rattle.ds_codec.specs.Order.{text}
use Rattle.order_lines.specs.Print.{hex_byte, pair_word, pair_words, order_words}
use Rattle.order_lines.specs.Laws.{is_plain, are_plain}

pub and_true : (a b : Bool) → a ≡ true → b ≡ true → (a && b) ≡ true
and_true true b first second = second
and_true false b first second = absurd cc

pub plain-append : (xs ys : List ℕ) → are_plain xs ≡ true → are_plain ys ≡ true → are_plain (xs ++ ys) ≡ true
plain-append xs ys first second = list_all-append is_plain xs ys ∙ and_true _ _ first second

plain-digit : (c : ℕ) → is_ascii_digit c ≡ true → is_plain c ≡ true
plain-digit c h = grind (arith, nat_tests)

plain-digits : (ds : List ℕ) → all_ascii_digits ds ≡ true → are_plain ds ≡ true
plain-digits [] h = refl
plain-digits (c ∷ cs) h =
    let parts = both_true (is_ascii_digit c) (all_ascii_digits cs) h in
    and_true _ _ (plain-digit c parts.0) (plain-digits cs parts.1)

pub digits_model : IsNumeralModel (λ ds. all_ascii_digits ds ≡ true) (digits_value 10)
digits_model = numerals_by_value _ tells_all_ascii_digits

pub plain-decimal : (n : ℕ) → n < 2 ^ 64 → are_plain (decimal n) ≡ true
plain-decimal n small = plain-digits (decimal n) (digits_decimal digits_model n small)

-- the digits of hexadecimal, by trying all sixteen
abbrev glyph_test : ℕ → Bool
glyph_test d = is_plain (digit_glyph true d)

pub plain-glyph : (d : ℕ) → d < 16 → is_plain (digit_glyph true d) ≡ true
plain-glyph d lt = each_below glyph_test 16 d refl lt

-- both tables give a digit the same glyph, of ASCII
abbrev glyphs_test : ℕ → Bool
glyphs_test d = slice_index upper_digits d == digit_glyph true d

pub glyph_at : (d : ℕ) → d < 16 → slice_index upper_digits d ≡ digit_glyph true d
glyph_at d lt = eqb-true _ _ (each_below glyphs_test 16 d refl lt)

abbrev ascii_test : ℕ → Bool
ascii_test d = ltb (slice_index upper_digits d) 128

pub ascii_at : (d : ℕ) → d < 16 → slice_index upper_digits d < 128
ascii_at d lt = ltb-true _ _ (each_below ascii_test 16 d refl lt)

pub ascii_digits : IsAscii upper_digits
ascii_digits = IsAscii-from_reads upper_digits 16 (omega arith) ascii_at

pub encode-append : (t xs ys : List ℕ) → encode_with t (xs ++ ys) ≡ encode_with t xs ++ encode_with t ys
unfolding encode_with
encode-append t [] ys = refl
encode-append t (x ∷ xs) ys = rw (encode-append t xs ys) refl

-- two digits for each byte of the front are the digits of the front
pub encode-front : (t front part rest digits : List ℕ) → front ≡ part → digits ≡ encode_with t (front ++ rest)
    → take (2 * length part) digits ≡ encode_with t part
encode-front t front part rest digits same spelled =
    let long = length-encode_with t part in
    rw (spelled, same, encode-append t part rest, ← long) (take-append_seam (encode_with t part) (encode_with t rest))

-- the word, the digits of more bytes than a text has, and the line's end where the digits of the text end
pub text-line : (name more front part rest digits : List ℕ) → name ≡ codes "TEXT " → length more ≡ 65
    → front ≡ part → digits ≡ encode_upper (front ++ rest)
    → take (6 + 2 * length part) (slice_set (put_mid 5 64 (name ++ more) digits) (5 + 2 * length part) 10) ≡ order_words (text part) ++ codes "\n"
text-line name more front part rest digits named long same spelled =
    let last : List ℕ = drop 64 more in
    let one : length last ≡ 1 = omega (arith, length-drop 64 more) in
    let count : length digits ≡ 2 * length (front ++ rest) = rw spelled (length-encode_with upper_digits (front ++ rest)) in
    let fits : 2 * length part ≤ length digits = omega (arith, count, length-append front rest, ap length same) in
    let spells : take (2 * length part) (digits ++ last) ≡ encode_upper part =
    take-append-le (2 * length part) digits last fits ∙ encode-front upper_digits front part rest digits same spelled in
    let end = 5 + 2 * length part in
    let line : List ℕ = codes "TEXT " ++ (digits ++ last) in
    let room : end < length line = omega (arith, length-append digits last) in
    let on : 6 + 2 * length part ≡ end + 1 = omega arith in
    let front_is : take end line ≡ order_words (text part) =
    take-append-add (codes "TEXT ") (digits ++ last) (2 * length part) ∙ ap (λ (xs : List ℕ). codes "TEXT " ++ xs) spells in
    rw named (ap (λ (n : ℕ). take n (slice_set line end 10)) on ∙ take_more_set line end 10 room ∙ ap (λ (xs : List ℕ). xs ++ codes "\n") front_is)

pub ascii-text : (run : List ℕ) → IsAscii (order_words (text run) ++ codes "\n")
ascii-text run =
    let name : IsAscii (codes "TEXT ") = search rules in
    let end : IsAscii (codes "\n") = search rules in
    IsAscii-append (order_words (text run)) (codes "\n") (IsAscii-append (codes "TEXT ") (encode_upper run) name (IsAscii-encode_with upper_digits run ascii_digits)) end

abbrev table_test : ℕ → Bool
table_test d = is_plain (slice_index upper_digits d)

plain-table : (d : ℕ) → d < 16 → is_plain (slice_index upper_digits d) ≡ true
plain-table d lt = each_below table_test 16 d refl lt

pub plain-hex_byte : (b : ℕ) → b < 256 → are_plain (hex_byte b) ≡ true
plain-hex_byte b small =
    let high : b / 16 < 16 = omega arith in
    let low : b % 16 < 16 = omega arith in
    rw (plain-glyph (b / 16) high, plain-glyph (b % 16) low) refl

pub plain-encode : (bytes : List ℕ) → IsBytes bytes → are_plain (encode_upper bytes) ≡ true
unfolding encode_with
plain-encode [] h = refl
plain-encode (b ∷ bs) h =
    let small : b < 256 = h 0 in
    let high : b / 16 < 16 = omega arith in
    let low : b % 16 < 16 = omega arith in
    and_true _ _ (plain-table (b / 16) high) (and_true _ _ (plain-table (b % 16) low) (plain-encode bs (λ i. h (suc i))))

pub plain-pair_word : (kind value : ℕ) → kind < 256 → value < 256 → are_plain (pair_word kind value) ≡ true
plain-pair_word kind value first second =
    plain-append (hex_byte kind) (61 ∷ hex_byte value) (plain-hex_byte kind first) (plain-hex_byte value second)

pub plain-pair_words : (pairs : List ℕ) → IsBytes pairs → are_plain (pair_words pairs) ≡ true
plain-pair_words [] h = refl
plain-pair_words (kind ∷ []) h = refl
plain-pair_words (kind ∷ value ∷ pairs) h =
    plain-append (pair_word kind value) (pair_words pairs) (plain-pair_word kind value (h 0) (h 1)) (plain-pair_words pairs (λ i. h (suc (suc i))))
