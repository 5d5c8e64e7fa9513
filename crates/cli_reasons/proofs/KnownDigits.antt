-- Digits that are known at the front of bytes.
use Rattle.std.proofs.Common.{◌≡◌, ◌<◌, ◌≤◌, ◌+◌, ◌-◌, ℕ, zero, suc, Bool, true, false, List, [], ◌∷◌, ◌++◌, length, get_or, take, drop, cond, arith, refl, ap, sym, ◌∙◌}
use Rattle.std.specs.Prelude.{◌&&◌, ◌==◌, min, nat_lt}
use Rattle.std.proofs.lemmas.List.{take-append-drop, take-take, drop-take, length-take, length-take-le}
use Rattle.std.proofs.lemmas.List.Sums.{count_by-le-length, sum_by-cons}
use Rattle.std.proofs.Math.Seq.{take-length}
use Rattle.bstr.specs.Text.{no_cr, without_terminator}
use Rattle.hex.specs.Hex.{is_hex_digit}
use Rattle.cli_reasons.specs.Digits.{BeginsWithDigits, digit_count}
use Rattle.cli_reasons.proofs.Spaced.{first_too}
use Rattle.cli_reasons.proofs.WalkLaws.{by_bool}

-- they are all of that front
pub front_long : (known : ℕ) (bytes : List ℕ) → BeginsWithDigits known bytes → digit_count (take known bytes) ≡ length (take known bytes)
front_long known bytes is =
    let most : digit_count (take known bytes) ≤ length (take known bytes) = count_by-le-length is_hex_digit (take known bytes) in
    omega (arith, is, most, length-take known bytes)

-- fewer bytes at the front are digits too
fewer_digits : (few known : ℕ) (bytes : List ℕ) → few ≤ known → BeginsWithDigits known bytes → BeginsWithDigits few bytes
fewer_digits zero known bytes le is = refl
fewer_digits (suc few) zero bytes le is = absurd (omega arith)
fewer_digits (suc few) (suc known) [] le is = absurd (omega (arith, is))
fewer_digits (suc few) (suc known) (x ∷ xs) le is =
    let below : digit_count (take known xs) ≤ known = omega (arith, count_by-le-length is_hex_digit (take known xs), length-take known xs) in
    let parts = first_too (is_hex_digit x) (digit_count (take known xs)) known (omega (arith, is, sum_by-cons (λ y. cond (is_hex_digit y) 1 0) x (take known xs))) below in
    let one : ◌≡◌ {A = ℕ} (cond (is_hex_digit x) 1 0) 1 = ap (λ b. cond b 1 0) parts.0 in
    omega (arith, one, fewer_digits few known xs (omega arith) parts.1, sum_by-cons (λ y. cond (is_hex_digit y) 1 0) x (take few xs))

-- what stands after so many bytes of a front
pub front_more : (known more : ℕ) (bytes : List ℕ) → take (known + more) bytes ≡ take known bytes ++ take more (drop known bytes)
front_more known more bytes =
    sym (take-append-drop known (take (known + more) bytes))
    ∙ ap (λ l. l ++ drop known (take (known + more) bytes)) (take-take known (known + more) bytes (omega arith))
    ∙ ap (λ l. take known bytes ++ l) (drop-take known more bytes)

-- ---- a line without its end

abbrev IsFront : List ℕ → List ℕ → Type 0
IsFront line raw = line ≡ take (length line) raw

front_take : (count : ℕ) (raw : List ℕ) → count ≤ length raw → IsFront (take count raw) raw
front_take count raw inside = ap (λ n. take n raw) (sym (length-take-le count raw inside))

front_no_cr : (count : ℕ) (raw : List ℕ) → count ≤ length raw → IsFront (no_cr (take count raw)) raw
front_no_cr count raw inside =
    by_bool (nat_lt 0 (length (take count raw)) && get_or (take count raw) (length (take count raw) - 1) 0 == 13)
    (λ ends.
    let long : length (take count raw) ≡ count = length-take-le count raw inside in
    let same : take (length (take count raw) - 1) (take count raw) ≡ take (length (take count raw) - 1) raw =
    take-take (length (take count raw) - 1) count raw (omega (arith, long)) in
    rw ends (rw same (front_take (length (take count raw) - 1) raw (omega (arith, long)))))
    (λ other. rw other (front_take count raw inside))

line_front : (raw : List ℕ) → IsFront (without_terminator raw) raw
line_front raw =
    by_bool (nat_lt 0 (length raw) && get_or raw (length raw - 1) 0 == 10)
    (λ ends. rw ends (front_no_cr (length raw - 1) raw (omega arith))) (λ other. rw other (sym (take-length raw)))

-- its digits are those of the line, as far as it goes
pub line_digits : (known : ℕ) (raw : List ℕ) → BeginsWithDigits known raw
    → BeginsWithDigits (min known (length (without_terminator raw))) (without_terminator raw)
line_digits known raw is =
    let long = length (without_terminator raw) in
    let same : take (min known long) (without_terminator raw) ≡ take (min known long) raw =
    ap (take (min known long)) (line_front raw) ∙ take-take (min known long) long raw (omega arith) in
    ap digit_count same ∙ fewer_digits (min known long) known raw (omega arith) is
