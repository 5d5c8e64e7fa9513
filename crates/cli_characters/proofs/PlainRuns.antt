-- Lines of plain characters: no LF and no CR is in them, and the runs of a text are such.
use Rattle.std.proofs.Common.{◌≡◌, ◌<◌, ◌≤◌, ℕ, zero, suc, ◌-◌, ◌/◌, ◌%◌, Bool, true, false, eqb, ltb, List, [], ◌∷◌, ◌++◌, length, get_or, Option, Some, None, refl, arith, inl, inr}
use Rattle.std.specs.Prelude.{slice_index}
use Rattle.std.proofs.lemmas.Bool.{ne_eqb, cases_lt, lt-ltb}
use Rattle.std.proofs.lemmas.Bool.Decides.{nat_tests}
use Rattle.std.proofs.lemmas.List.{get_or_past}
use Rattle.bstr.specs.Text.{no_cr}
use Rattle.hex.specs.Hex.{IsBytes, encode_upper, encode_with, upper_digits}
use Rattle.ds_codec.proofs.Below.{both_true}
use Rattle.order_lines.specs.Laws.{is_plain, are_plain}
use Rattle.order_lines.proofs.Plain.{plain-append, plain-hex_byte}
use Rattle.cli_characters.specs.declared.runs.Before.{Before}
use Rattle.cli_characters.specs.declared.runs.Before.TheVariants as before
use Rattle.cli_characters.specs.Lines.{parts_of, by_lines}
use Rattle.cli_characters.specs.Runs.{in_quotes, opens, leads, ends, byte_text, after_byte, runs_after}
use Rattle.cli_characters.specs.Table.{character_of}
use Rattle.cli_characters.proofs.Codes.{is_plain_character}
use Rattle.cli_characters.proofs.Parts.{some_parts}

low : (c : ℕ) → is_plain c ≡ true → 32 ≤ c
low c h = grind (arith, nat_tests)

plain_at : (words : List ℕ) (i : ℕ) → are_plain words ≡ true → i < length words → is_plain (get_or words i 0) ≡ true
plain_at [] i h less = absurd (omega arith)
plain_at (c ∷ cs) zero h less = (both_true (is_plain c) (are_plain cs) h).0
plain_at (c ∷ cs) (suc i) h less = plain_at cs i (both_true (is_plain c) (are_plain cs) h).1 (omega arith)

-- no CR ends them
pub keeps_all : (words : List ℕ) → are_plain words ≡ true → no_cr words ≡ words
keeps_all [] h = refl
keeps_all (c ∷ cs) h =
    let words = c ∷ cs in
    let last : 32 ≤ get_or words (length words - 1) 0 = low _ (plain_at words (length words - 1) h (omega arith)) in
    let test : eqb (get_or words (length words - 1) 0) 13 ≡ false = ne_eqb _ _ (λ same. omega arith) in
    let some : ltb 0 (length words) ≡ true = lt-ltb _ _ (omega arith) in
    rw (some, test) refl

-- no LF is in them
pub plain_parts : (words more : List ℕ) → are_plain words ≡ true → parts_of (words ++ (10 ∷ more)) ≡ words ∷ parts_of more
plain_parts [] more h = refl
plain_parts (c ∷ cs) more h =
    let both = both_true (is_plain c) (are_plain cs) h in
    let high : 32 ≤ c = low c both.0 in
    let test : eqb c 10 ≡ false = ne_eqb _ _ (λ same. omega arith) in
    rw (test, plain_parts cs more both.1) refl

pub plain_first : (written : List ℕ → List ℕ) (words more : List ℕ) → are_plain words ≡ true → by_lines written (words ++ (10 ∷ more)) ≡ written words ++ (10 ∷ by_lines written more)
plain_first written words more h = let there = some_parts more in rw (plain_parts words more h, there.2) refl

-- ---- the runs of a text

plain_quotes_by : (b : Bool) (c : ℕ) → eqb c 39 ≡ b → is_plain c ≡ true → are_plain (in_quotes c) ≡ true
plain_quotes_by true c is h = rw is refl
plain_quotes_by false c is h = rw (is, h) refl

plain_opens : (stands : Before) → are_plain (opens stands) ≡ true
plain_opens before.Nothing = refl
plain_opens before.Characters = refl
plain_opens before.Digits = refl

plain_leads : (stands : Before) → are_plain (leads stands) ≡ true
plain_leads before.Nothing = refl
plain_leads before.Characters = refl
plain_leads before.Digits = refl

plain_ends : (stands : Before) → are_plain (ends stands) ≡ true
plain_ends before.Nothing = refl
plain_ends before.Characters = refl
plain_ends before.Digits = refl

plain_byte : (stands : Before) (byte : ℕ) (o : Option ℕ) → byte < 256 → character_of byte ≡ o → are_plain (byte_text stands byte o) ≡ true
plain_byte stands byte (Some c) small is = plain-append (opens stands) (in_quotes c) (plain_opens stands) (plain_quotes_by (eqb c 39) c refl (is_plain_character byte c small is))
plain_byte stands byte None small is = plain-append (leads stands) _ (plain_leads stands) (plain-hex_byte byte small)

pub plain_after : (stands : Before) (bytes : List ℕ) → IsBytes bytes → are_plain (runs_after stands bytes) ≡ true
plain_after stands [] small = plain_ends stands
plain_after stands (byte ∷ bytes) small =
    plain-append (byte_text stands byte (character_of byte)) (runs_after (after_byte (character_of byte)) bytes) (plain_byte stands byte (character_of byte) (small 0) refl)
    (plain_after (after_byte (character_of byte)) bytes (λ i. small (suc i)))

-- ---- digits that are plain are of bytes

with_first : (b : ℕ) (bs : List ℕ) → b < 256 → IsBytes bs → IsBytes (b ∷ bs)
with_first b bs small all zero = small
with_first b bs small all (suc i) = all i

small_half : (b : ℕ) → is_plain (slice_index upper_digits (b / 16)) ≡ true → b < 256
small_half b h =
    elim (cases_lt (b / 16) 16) [
      | inl less ↦ omega arith
      | inr past ↦ let none : slice_index upper_digits (b / 16) ≡ 0 = get_or_past upper_digits (b / 16) 0 past in
          let high : 32 ≤ slice_index upper_digits (b / 16) = low _ h in absurd (omega arith)
    ]

pub are_bytes : (run : List ℕ) → are_plain (encode_upper run) ≡ true → IsBytes run
unfolding encode_with
are_bytes [] h = λ i. omega arith
are_bytes (b ∷ bs) h =
    let first = both_true (is_plain (slice_index upper_digits (b / 16))) (are_plain (slice_index upper_digits (b % 16) ∷ encode_upper bs)) h in
    let second = both_true (is_plain (slice_index upper_digits (b % 16))) (are_plain (encode_upper bs)) first.1 in
    with_first b bs (small_half b first.0) (are_bytes bs second.1)
