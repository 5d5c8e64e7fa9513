-- The table of characters and that of codes, counted up.
use Rattle.std.proofs.Common.{◌≡◌, ◌<◌, ◌≤◌, ℕ, Bool, true, false, leb, get_or, length, Option, Some, None, refl, sym, ap, subst, ◌∙◌, arith, ◌⊎◌, inl, inr, true≢false}
use Rattle.std.specs.Prelude.{◌||◌, ◌&&◌, not, ◌==◌}
use Rattle.std.specs.List.{list_all, range_with_len}
use Rattle.std.proofs.lemmas.List.FromFn.{length-range_with_len, get_or-range_with_len}
use Rattle.std.proofs.lemmas.List.Folds.{list_all_at}
use Rattle.std.proofs.lemmas.Bool.{eqb-true, ne_eqb, lt-leb, cases_lt}
use Rattle.ds_screen.specs.Shown.{printed_code}
use Rattle.script_screens.specs.declared.code_page.CodePage.{CodePage}
use Rattle.script_screens.specs.declared.code_page.CodePage.TheVariants.{Bracket, CodePage037}
use Rattle.script_screens.specs.Characters.{character_of, code_of}
use Rattle.script_screens.specs.Laws.{CharactersHaveCodes, CodesHaveCharacters, PrintedAreCharacters}

by_bool : (b : Bool) → (b ≡ false → true ≡ false) → b ≡ true
by_bool true no_false = refl
by_bool false no_false = sym (no_false refl)

pub below : (test : ℕ → Bool) (n k : ℕ) → list_all test (range_with_len 0 n) ≡ true → k < n → test k ≡ true
below test n k all less =
    let there : get_or (range_with_len 0 n) k 0 ≡ k = get_or-range_with_len 0 n k 0 less ∙ omega arith in
    let inside : k < length (range_with_len 0 n) = rw (length-range_with_len 0 n) less in
    by_bool (test k) (λ fails. sym all ∙ list_all_at test (range_with_len 0 n) k 0 inside (ap test there ∙ fails))

pub is_none : {A : Type 0} → Option A → Type 0
is_none None = Unit {0}
is_none (Some x) = ⊥

pub some_ne : {A : Type 0} (x : A) → Some x ≡ None → ⊥
unfolding is_none
some_ne x is = subst is_none (sym is) tt

abbrev pub has : ℕ → Option ℕ → Bool
has c None = false
has c (Some d) = d == c

pub has_is : (c : ℕ) (o : Option ℕ) → has c o ≡ true → o ≡ Some c
has_is c None is = absurd (true≢false (sym is))
has_is c (Some d) is = ap Some (eqb-true d c is)

-- a code whose character has it
abbrev coded_so : CodePage → ℕ → Option ℕ → Bool
coded_so page code None = true
coded_so page code (Some character) = has code (code_of page character)

abbrev read_so : CodePage → ℕ → Option ℕ → Bool
read_so page character None = true
read_so page character (Some code) = has character (character_of page code)

all_coded : (page : CodePage) → list_all (λ code. coded_so page code (character_of page code)) (range_with_len 0 256) ≡ true
unfolding code_of character_of
all_coded Bracket = refl
all_coded CodePage037 = refl

all_read : (page : CodePage) → list_all (λ character. read_so page character (code_of page character)) (range_with_len 0 256) ≡ true
unfolding code_of character_of
all_read Bracket = refl
all_read CodePage037 = refl

pub characters_have_codes : CharactersHaveCodes
characters_have_codes page code character small is =
    let so : coded_so page code (character_of page code) ≡ true = below (λ c. coded_so page c (character_of page c)) 256 code (all_coded page) small in
    has_is code (code_of page character) (rw is at so)

never_both : (b : Bool) → (b && false) ≡ false
never_both true = refl
never_both false = refl

high_has_none : (page : CodePage) (character : ℕ) → 256 ≤ character → code_of page character ≡ None
unfolding code_of
high_has_none page character high =
    let past : leb character 0x7E ≡ false = lt-leb _ _ (omega arith) in
    let after : leb character 0xFF ≡ false = lt-leb _ _ (omega arith) in
    rw (past, after, never_both (leb 0x20 character), never_both (leb 0xA0 character)) refl

pub codes_have_characters : CodesHaveCharacters
codes_have_characters page code character is =
    elim (cases_lt character 256) [
      | inl less ↦
          let so : read_so page character (code_of page character) ≡ true = below (λ c. read_so page c (code_of page c)) 256 character (all_read page) less in
          has_is character (character_of page code) (rw is at so)
      | inr high ↦ absurd (some_ne code (sym is ∙ high_has_none page character high))
    ]

-- ---- the characters that a screen is printed with

abbrev printed_so : ℕ → Bool
printed_so code = ((printed_code code == 63) && not (code == 0x6F)) || has (printed_code code) (character_of CodePage037 code)

all_printed : list_all printed_so (range_with_len 0 256) ≡ true
unfolding printed_code character_of
all_printed = refl

or_second : (a b : Bool) → a ≡ false → (a || b) ≡ true → b ≡ true
or_second false b none is = is
or_second true b none is = absurd (true≢false none)

no_question : (printed code : ℕ) → ((printed ≡ 63 → ⊥) ⊎ (code ≡ 0x6F)) → ((printed == 63) && not (code == 0x6F)) ≡ false
no_question printed code (inl other) = rw (ne_eqb printed 63 other) refl
no_question printed code (inr is) = rw is (never_both (printed == 63))

pub printed_are_characters : PrintedAreCharacters
printed_are_characters code small one =
    has_is (printed_code code) (character_of CodePage037 code)
    (or_second ((printed_code code == 63) && not (code == 0x6F)) (has (printed_code code) (character_of CodePage037 code)) (no_question (printed_code code) code one)
    (below printed_so 256 code all_printed small))
