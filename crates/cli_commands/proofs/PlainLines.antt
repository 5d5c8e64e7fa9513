-- Lines of plain characters.
use Rattle.std.proofs.Common.{◌≡◌, ◌≢◌, ◌<◌, ◌≤◌, ℕ, zero, suc, ◌+◌, ◌-◌, true, false, eqb, ltb, List, [], ◌∷◌, ◌++◌, length, take, get_or, refl, ap, arith, inl, inr, length-append}
use Rattle.std.specs.Str.{is_utf8, IsAscii}
use Rattle.std.proofs.lemmas.Bool.{cases_lt, eq-eqb, lt-ltb, ne_eqb}
use Rattle.std.proofs.lemmas.Bool.Decides.{nat_tests}
use Rattle.std.proofs.lemmas.List.{get_or_past, get_or_append_left, take_at}
use Rattle.std.proofs.Math.Seq.{get_or-append_seam}
use Rattle.std.proofs.lemmas.Str.{is_utf8-from_IsUtf8, IsUtf8-from_ascii}
use Rattle.bstr.specs.Text.{lines_of, without_terminator, no_cr}
use Rattle.bstr.proofs.lemmas.LineLemmas.{lines-append, lines-one, lines-nil}
use Rattle.ds_codec.proofs.Below.{both_true}
use Rattle.order_lines.specs.Laws.{is_plain, are_plain}
use Rattle.cli_commands.specs.Lines.{lines_in}

plain_low : (c : ℕ) → is_plain c ≡ true → 32 ≤ c
plain_low c h = grind (arith, nat_tests)

plain_high : (c : ℕ) → is_plain c ≡ true → c < 128
plain_high c h = grind (arith, nat_tests)

-- each character of plain words is plain
plain_at : (words : List ℕ) (i : ℕ) → are_plain words ≡ true → i < length words → is_plain (get_or words i 0) ≡ true
plain_at [] i h lt = absurd (omega arith)
plain_at (c ∷ cs) zero h lt = (both_true (is_plain c) (are_plain cs) h).0
plain_at (c ∷ cs) (suc i) h lt = plain_at cs i (both_true (is_plain c) (are_plain cs) h).1 (omega arith)

plain_ascii : (words : List ℕ) → are_plain words ≡ true → IsAscii words
plain_ascii words h i =
    elim (cases_lt i (length words)) [
      | inl lt ↦ plain_high _ (plain_at words i h lt)
      | inr le ↦ let none : get_or words i 0 ≡ 0 = get_or_past words i 0 le in rw none (omega arith)
    ]

pub plain_utf8 : (words : List ℕ) → are_plain words ≡ true → is_utf8 words ≡ true
plain_utf8 words h = is_utf8-from_IsUtf8 words (IsUtf8-from_ascii words (plain_ascii words h))

-- a plain line, cut from the text
abbrev ended : List ℕ → List ℕ
ended words = words ++ 10 ∷ []

last_is : (words : List ℕ) → get_or (ended words) (length (ended words) - 1) 0 ≡ 10
last_is words = let at : length (ended words) - 1 ≡ length words = omega (arith, length-append words (10 ∷ [])) in rw at (get_or-append_seam words 10 [] 0)

no_feed : (words : List ℕ) → are_plain words ≡ true → (k : ℕ) → k + 1 < length (ended words) → get_or (ended words) k 0 ≢ 10
no_feed words h k lt is =
    let inside : k < length words = omega (arith, length-append words (10 ∷ [])) in
    let same : get_or (ended words) k 0 ≡ get_or words k 0 = get_or_append_left words (10 ∷ []) 0 k inside in
    let low : 32 ≤ get_or words k 0 = plain_low _ (plain_at words k h inside) in
    omega arith

keeps_all : (words : List ℕ) → are_plain words ≡ true → no_cr words ≡ words
keeps_all [] h = refl
keeps_all (c ∷ cs) h =
    let words = c ∷ cs in
    let low : 32 ≤ get_or words (length words - 1) 0 = plain_low _ (plain_at words (length words - 1) h (omega arith)) in
    let test : eqb (get_or words (length words - 1) 0) 13 ≡ false = ne_eqb _ _ (λ same. omega arith) in
    let some : ltb 0 (length words) ≡ true = lt-ltb _ _ (omega arith) in
    rw (some, test) refl

pub one_line : (words : List ℕ) → are_plain words ≡ true → without_terminator (ended words) ≡ words
one_line words h =
    let some : ltb 0 (length (ended words)) ≡ true = lt-ltb _ _ (omega (arith, length-append words (10 ∷ []))) in
    let feed : eqb (get_or (ended words) (length (ended words) - 1) 0) 10 ≡ true = eq-eqb _ _ (last_is words) in
    let front : take (length (ended words) - 1) (ended words) ≡ words = take_at words (10 ∷ []) _ (omega (arith, length-append words (10 ∷ []))) in
    rw (some, feed, front) (keeps_all words h)

-- the first line of a text
pub first_line : (words more : List ℕ) → are_plain words ≡ true → lines_in (ended words ++ more) ≡ words ∷ lines_in more
first_line words more h =
    let first : lines_of (ended words) ≡ ended words ∷ [] = lines-one (ended words) (omega (arith, length-append words (10 ∷ []))) (no_feed words h) in
    let both : lines_of (ended words ++ more) ≡ lines_of (ended words) ++ lines_of more = lines-append (length (ended words)) (ended words) more (omega arith) (inr (last_is words)) in
    rw (both, first) (ap (λ line. line ∷ lines_in more) (one_line words h))

pub no_lines : lines_in [] ≡ []
no_lines = rw lines-nil refl
