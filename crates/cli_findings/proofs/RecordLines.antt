-- What passes a test, one after the other, with its number.
use Rattle.std.proofs.Common.{◌≡◌, ◌≢◌, ◌≤◌, ℕ, zero, suc, ◌+◌, ◌-◌, ◌*◌, ◌==◌, Bool, true, false, not, List, [], ◌∷◌, length, map, drop, Some, None, refl, arith}
use Rattle.std.specs.Prelude.{slice_get}
use Rattle.std.proofs.lemmas.Bool.Decides.{nat_tests}
use Rattle.std.proofs.lemmas.Option.{slice_get_past}
use Rattle.cli_commands.specs.Says.{is_silent, telling}
use Rattle.cli_findings.specs.RecordLine.{numbers_of, telling_from}
use Rattle.cli_findings.specs.Region.{begins, without_blanks, is_table, digit_ends, byte_columns}

-- what fails the test is no number's
over : {A : Type 0} (test : A → Bool) (number : ℕ) (item : A) (items : List A) (index : ℕ) → test item ≡ false
    → slice_get (numbers_of test number (item ∷ items)) index ≡ slice_get (numbers_of test (number + 1) items) index
over test number item items index fails = rw fails refl

-- the first that passes is at 0
first : {A : Type 0} (test : A → Bool) (number : ℕ) (item : A) (items : List A) → test item ≡ true
    → slice_get (numbers_of test number (item ∷ items)) 0 ≡ Some number
first test number item items passes = rw passes refl

past : {A : Type 0} (test : A → Bool) (number : ℕ) (item : A) (items : List A) (index : ℕ) → test item ≡ true → index ≢ 0
    → slice_get (numbers_of test number (item ∷ items)) index ≡ slice_get (numbers_of test (number + 1) items) (index - 1)
past test number item items zero passes some = absurd (some refl)
past test number item items (suc index) passes some =
    let less : suc index - 1 ≡ index = omega arith in
    rw (passes, less) refl

fails_not : (b : Bool) → b ≡ true → not b ≡ false
fails_not b is = rw is refl

passes_not : (b : Bool) → b ≡ false → not b ≡ true
passes_not b is = rw is refl

-- ---- lines of records

-- a line that is ignored tells nothing
pub over_silent : (number : ℕ) (line : List ℕ) (lines : List (List ℕ)) (index : ℕ) → is_silent line ≡ true
    → slice_get (telling_from number (line ∷ lines)) index ≡ slice_get (telling_from (number + 1) lines) index
over_silent number line lines index silent = over (λ l. not (is_silent l)) number line lines index (fails_not (is_silent line) silent)

-- the first that isn't is the first record's
pub here : (number : ℕ) (line : List ℕ) (lines : List (List ℕ)) → is_silent line ≡ false → slice_get (telling_from number (line ∷ lines)) 0 ≡ Some number
here number line lines telling = first (λ l. not (is_silent l)) number line lines (passes_not (is_silent line) telling)

pub beyond : (number : ℕ) (line : List ℕ) (lines : List (List ℕ)) (index : ℕ) → is_silent line ≡ false → index ≢ 0
    → slice_get (telling_from number (line ∷ lines)) index ≡ slice_get (telling_from (number + 1) lines) (index - 1)
beyond number line lines index telling some = past (λ l. not (is_silent l)) number line lines index (passes_not (is_silent line) telling) some

none_of : {A : Type 0} (test : A → Bool) (number : ℕ) (item : A) (items : List A) → test item ≡ false
    → numbers_of test number (item ∷ items) ≡ numbers_of test (number + 1) items
none_of test number item items fails = rw fails refl

one_of : {A : Type 0} (test : A → Bool) (number : ℕ) (item : A) (items : List A) → test item ≡ true
    → numbers_of test number (item ∷ items) ≡ number ∷ numbers_of test (number + 1) items
one_of test number item items passes = rw passes refl

pub none_of_silent : (number : ℕ) (line : List ℕ) (lines : List (List ℕ)) → is_silent line ≡ true
    → telling_from number (line ∷ lines) ≡ telling_from (number + 1) lines
none_of_silent number line lines silent = none_of (λ l. not (is_silent l)) number line lines (fails_not (is_silent line) silent)

pub one_of_telling : (number : ℕ) (line : List ℕ) (lines : List (List ℕ)) → is_silent line ≡ false
    → telling_from number (line ∷ lines) ≡ number ∷ telling_from (number + 1) lines
one_of_telling number line lines telling = one_of (λ l. not (is_silent l)) number line lines (passes_not (is_silent line) telling)

pub no_ends_of_silent : (line : List ℕ) (lines : List (List ℕ)) → is_silent line ≡ true → map digit_ends (telling (line ∷ lines)) ≡ map digit_ends (telling lines)
no_ends_of_silent line lines silent = rw silent refl

pub ends_of_telling : (line : List ℕ) (lines : List (List ℕ)) → is_silent line ≡ false
    → map digit_ends (telling (line ∷ lines)) ≡ digit_ends line ∷ map digit_ends (telling lines)
ends_of_telling line lines tells = rw tells refl

-- ---- tables

pub over_line : (number : ℕ) (line : List ℕ) (lines : List (List ℕ)) (index : ℕ) → is_table line ≡ false
    → slice_get (numbers_of is_table number (line ∷ lines)) index ≡ slice_get (numbers_of is_table (number + 1) lines) index
over_line number line lines index other = over is_table number line lines index other

pub table_here : (number : ℕ) (line : List ℕ) (lines : List (List ℕ)) → is_table line ≡ true
    → slice_get (numbers_of is_table number (line ∷ lines)) 0 ≡ Some number
table_here number line lines table = first is_table number line lines table

pub table_beyond : (number : ℕ) (line : List ℕ) (lines : List (List ℕ)) (index : ℕ) → is_table line ≡ true → index ≢ 0
    → slice_get (numbers_of is_table number (line ∷ lines)) index ≡ slice_get (numbers_of is_table (number + 1) lines) (index - 1)
table_beyond number line lines index table some = past is_table number line lines index table some

-- ---- digits

pub no_end_of_space : (after c : ℕ) (cs : List ℕ) → c ≡ 0x20
    → numbers_of (λ b. not (b == 0x20)) after (c ∷ cs) ≡ numbers_of (λ b. not (b == 0x20)) (after + 1) cs
no_end_of_space after c cs space = none_of (λ b. not (b == 0x20)) after c cs (rw space refl)

pub end_of_digit : (after c : ℕ) (cs : List ℕ) → (c == 0x20) ≡ false
    → numbers_of (λ b. not (b == 0x20)) after (c ∷ cs) ≡ after ∷ numbers_of (λ b. not (b == 0x20)) (after + 1) cs
end_of_digit after c cs other = one_of (λ b. not (b == 0x20)) after c cs (passes_not (c == 0x20) other)

-- a record with no more digits than this has no such byte
pub no_columns : (ends : List ℕ) (byte : ℕ) → length ends ≤ byte → byte_columns ends byte ≡ None
no_columns ends byte short = rw (slice_get_past ends (2 * byte) (omega (arith, short))) refl

-- ---- the front of a line

not_none : (n : ℕ) → (suc n == 0) ≡ false
not_none n = grind (arith, nat_tests)

nothing_begins : (bytes : List ℕ) → (length bytes == 0) ≡ begins [] bytes
nothing_begins [] = refl
nothing_begins (b ∷ bs) = not_none (length bs)

drop_past : (n : ℕ) (line : List ℕ) → length line ≤ n → drop n line ≡ []
drop_past zero [] few = refl
drop_past (suc n) [] few = refl
drop_past zero (c ∷ cs) few = absurd (omega (arith, few))
drop_past (suc n) (c ∷ cs) few = drop_past n cs (omega (arith, few))

-- at the end of a line
pub ended : (n : ℕ) (line bytes : List ℕ) → length line ≤ n → (length bytes == 0) ≡ begins (without_blanks (drop n line)) bytes
ended n line bytes few = rw (drop_past n line few) (nothing_begins bytes)
