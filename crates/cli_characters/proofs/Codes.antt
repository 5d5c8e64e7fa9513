-- What is printed for each code, and the table read backwards: counted up, code by code.
use Rattle.std.proofs.Common.{◌≡◌, ◌<◌, ◌≤◌, ℕ, Bool, true, false, leb, get_or, Option, Some, None, refl, sym, ap, subst, ◌∙◌, arith, inl, inr, true≢false}
use Rattle.std.specs.Prelude.{◌||◌, ◌&&◌, not, ◌==◌, if◌then◌else◌}
use Rattle.std.specs.List.{list_all, range_with_len}
use Rattle.std.proofs.lemmas.List.FromFn.{length-range_with_len, get_or-range_with_len}
use Rattle.std.proofs.lemmas.Bool.{eqb-true, lt-leb, cases_lt}
use Rattle.ds_codec.specs.Character.{glyph, is_glyph, is_text}
use Rattle.ds_screen.specs.Shown.{printed_code}
use Rattle.order_lines.specs.Laws.{is_plain}
use Rattle.ds_screen.proofs.RunLaws.{list_all_true}
use Rattle.cli_characters.specs.Table.{code_of, character_of}
use Rattle.cli_characters.specs.Laws.{CodesArePrinted, CharactersAreRead}

pub below : (test : ℕ → Bool) (n k : ℕ) → list_all test (range_with_len 0 n) ≡ true → k < n → test k ≡ true
below test n k all less =
    let there : get_or (range_with_len 0 n) k 0 ≡ k = get_or-range_with_len 0 n k 0 less ∙ omega arith in
    let passes : test (get_or (range_with_len 0 n) k 0) ≡ true = list_all_true {X = ℕ} test (range_with_len 0 n) k 0 all (rw (length-range_with_len 0 n) less) in
    rw there at passes

or_second : (a b : Bool) → a ≡ false → (a || b) ≡ true → b ≡ true
or_second false b none is = is
or_second true b none is = absurd (true≢false none)

is_none : {A : Type 0} → Option A → Type 0
is_none None = Unit {0}
is_none (Some x) = ⊥

some_ne : {A : Type 0} (x : A) → Some x ≡ None → ⊥
unfolding is_none
some_ne x is = subst is_none (sym is) tt

not_some : {A : Type 0} (b : Bool) (x : A) → None ≡ (if b then Some x else None) → b ≡ false
not_some false x is = refl
not_some true x is = absurd (some_ne x (sym is))

-- a code without a character of its own in the text set is printed as '?'
abbrev has_none : ℕ → Bool
has_none code = is_text code || (printed_code code == 63)

none_of_all : list_all has_none (range_with_len 0 256) ≡ true
unfolding printed_code is_text
none_of_all = refl

pub none_printed : (code : ℕ) → code < 256 → None ≡ (if is_glyph (glyph code false) then Some (glyph code false) else None) → 63 ≡ printed_code code
none_printed code small none =
    sym (eqb-true _ _ (or_second (is_text code) (printed_code code == 63) (not_some (is_text code) (glyph code false) none) (below has_none 256 code none_of_all small)))

-- ---- the table

abbrev pub has : ℕ → Option ℕ → Bool
has c None = false
has c (Some d) = d == c

pub has_is : (c : ℕ) (o : Option ℕ) → has c o ≡ true → o ≡ Some c
has_is c None is = absurd (true≢false (sym is))
has_is c (Some d) is = ap Some (eqb-true d c is)

-- a character whose code is printed so, and a code whose character has it
abbrev printed_so : ℕ → Option ℕ → Bool
printed_so character None = true
printed_so character (Some code) = has character (character_of code)

abbrev read_so : ℕ → Option ℕ → Bool
read_so code None = true
read_so code (Some character) = has code (code_of character)

all_printed : list_all (λ character. printed_so character (code_of character)) (range_with_len 0 127) ≡ true
unfolding code_of character_of printed_code
all_printed = refl

all_read : list_all (λ code. read_so code (character_of code)) (range_with_len 0 256) ≡ true
unfolding code_of character_of printed_code
all_read = refl

never_both : (b : Bool) → (b && false) ≡ false
never_both true = refl
never_both false = refl

high_has_none : (character : ℕ) → 127 ≤ character → code_of character ≡ None
unfolding code_of
high_has_none character high = let test : leb character 126 ≡ false = lt-leb _ _ (omega arith) in rw (test, never_both (leb 32 character)) refl

pub codes_are_printed : CodesArePrinted
codes_are_printed character code is =
    elim (cases_lt character 127) [
      | inl less ↦ let so : printed_so character (code_of character) ≡ true = below (λ c. printed_so c (code_of c)) 127 character all_printed less in has_is character (character_of code) (rw is at so)
      | inr high ↦ absurd (some_ne code (sym is ∙ high_has_none character high))
    ]

pub characters_are_read : CharactersAreRead
characters_are_read code character small is =
    let so : read_so code (character_of code) ≡ true = below (λ c. read_so c (character_of c)) 256 code all_read small in has_is code (code_of character) (rw is at so)

pub bool_not : (b : Bool) → not b ≡ true → b ≡ false
bool_not true is = sym is
bool_not false is = refl

-- ---- plain characters

abbrev plain_so : Option ℕ → Bool
plain_so None = true
plain_so (Some character) = is_plain character

all_plain : list_all (λ code. plain_so (character_of code)) (range_with_len 0 256) ≡ true
unfolding character_of printed_code
all_plain = refl

pub is_plain_character : (code character : ℕ) → code < 256 → character_of code ≡ Some character → is_plain character ≡ true
is_plain_character code character small is =
    let so : plain_so (character_of code) ≡ true = below (λ c. plain_so (character_of c)) 256 code all_plain small in rw is at so
