-- Texts are of characters that a record takes.
use Rattle.std.proofs.Common.{◌≡◌, ◌+◌, ◌-◌, ◌*◌, ◌%◌, ◌<◌, ◌==◌, ℕ, zero, suc, Bool, true, false, cond, not, ◌&&◌, ◌||◌, List, [], ◌∷◌, length, get_or, replicate, Option, Some, None, refl, sym, ◌∙◌, subst, arith}
use Rattle.std.specs.Prelude.{nat_le, slice_index}
use Rattle.std.specs.List.{list_all}
use Rattle.std.proofs.lemmas.Bool.{eqb-true}
use Rattle.std.proofs.lemmas.List.Folds.{list_all-append, list_all_at}
use Rattle.ds_codec.specs.Character.{is_text}
use Rattle.bms_source.specs.declared.letter.Letter.{Letter}
use Rattle.bms_source.specs.declared.letter.Place.{Place}
use Rattle.bms_map.specs.declared.characters.TheConstants.{CODES}
use Rattle.bms_map.specs.Values.{between, ◌>>?◌}
use Rattle.bms_map.specs.Texts.{code_of, is_doubled, Read, codes, another, bad, before, codes_in, are_doubled, string_in, string_of, digit_of, text_byte, byte_of, bytes_in, are_digits, digits_of, text_in}
use Rattle.bms_map.specs.Lookup.{value_at, value_text, initial_in}
use Rattle.bms_map.specs.Entries.{padded}
use Rattle.bms_map.specs.Laws.{TextsAreText}

both_true : (a b : Bool) → a ≡ true → b ≡ true → (a && b) ≡ true
both_true a b one other = rw (one, other) refl

all_codes : list_all is_text CODES ≡ true
unfolding is_text
all_codes = refl

in_table : (i : ℕ) → i < 95 → is_text (get_or CODES i 0) ≡ true
in_table i inside = elim (is_text (get_or CODES i 0)) as (λ b. is_text (get_or CODES i 0) ≡ b → b ≡ true) [
  | true ↦ λ e. refl
  | false ↦ λ e. sym (list_all_at is_text CODES i 0 inside e) ∙ all_codes
] refl

code_text : (c b : ℕ) → code_of c ≡ Some b → is_text b ≡ true
unfolding code_of
code_text c b is = elim (nat_le 32 c && nat_le c 126) as (λ t. (nat_le 32 c && nat_le c 126) ≡ t → cond t (Some (slice_index CODES (c - 32))) None ≡ Some b → is_text b ≡ true) [
  | true ↦ λ inside e. subst (λ n. is_text n ≡ true) (same (slice_index CODES (c - 32)) b e) (in_table (c - 32) (below c inside))
  | false ↦ λ inside e. absurd cc
] refl is
  where
    same : (x y : ℕ) → Some x ≡ Some y → x ≡ y
    same x y e = cc

    below : (c : ℕ) → (nat_le 32 c && nat_le c 126) ≡ true → c - 32 < 95
    below c e = grind (arith, e)

abbrev IsGood : Read → Type 0
IsGood (codes text) = list_all is_text text ≡ true
IsGood another = Unit {0}
IsGood (bad place) = Unit {0}

before_good : (code : Option ℕ) (place : Place) (read : Read) → ((b : ℕ) → code ≡ Some b → is_text b ≡ true) → IsGood read → IsGood (before code place read)
before_good None place read each good = tt
before_good (Some b) place (codes text) each good = both_true (is_text b) (list_all is_text text) (each b refl) good
before_good (Some b) place another each good = tt
before_good (Some b) place (bad at) each good = tt

codes_good : (letters : List Letter) → IsGood (codes_in letters)
codes_good [] = refl
codes_good (a ∷ []) = elim (is_doubled a.code) as (λ d. IsGood (cond d (bad a.place) (before (code_of a.code) a.place (codes [])))) [
  | true ↦ tt
  | false ↦ before_good (code_of a.code) a.place (codes []) (code_text a.code) refl
]
codes_good (a ∷ b ∷ rest) =
    elim (is_doubled a.code) as (λ d. IsGood (cond d (cond (b.code == a.code) (before (code_of a.code) a.place (codes_in rest)) (bad a.place)) (before (code_of a.code) a.place (codes_in (b ∷ rest))))) [
      | true ↦ elim (b.code == a.code) as (λ s. IsGood (cond s (before (code_of a.code) a.place (codes_in rest)) (bad a.place))) [
        | true ↦ before_good (code_of a.code) a.place (codes_in rest) (code_text a.code) (codes_good rest)
        | false ↦ tt
      ]
      | false ↦ before_good (code_of a.code) a.place (codes_in (b ∷ rest)) (code_text a.code) (codes_good (b ∷ rest))
    ]

string_good : (found : Option (List Letter)) → IsGood (string_in found)
string_good None = tt
string_good (Some inner) = elim (are_doubled inner) as (λ d. IsGood (cond d (codes_in inner) another)) [ true ↦ codes_good inner | false ↦ tt ]

byte_above : (n : ℕ) → (nat_le 0x40 n && nat_le n 0xFE) ≡ true → is_text n ≡ true
unfolding is_text
byte_above n e = let wide : (nat_le 0x40 n && nat_le n 0xFF) ≡ true = grind (arith, e) in rw wide refl

byte_null : (n : ℕ) → n ≡ 0 → is_text n ≡ true
unfolding is_text
byte_null n e = subst (λ m. is_text m ≡ true) (sym e) refl

byte_one : (n : ℕ) → ((n == 0) || (nat_le 0x40 n && nat_le n 0xFE)) ≡ true → is_text n ≡ true
byte_one n inside = elim (n == 0) as (λ z. (n == 0) ≡ z → (z || (nat_le 0x40 n && nat_le n 0xFE)) ≡ true → is_text n ≡ true) [
  | true ↦ λ z e. byte_null n (eqb-true n 0 z)
  | false ↦ λ z e. byte_above n e
] refl inside

byte_text : (n b : ℕ) → text_byte n ≡ Some b → is_text b ≡ true
byte_text n b is = elim ((n == 0) || (nat_le 0x40 n && nat_le n 0xFE)) as
    (λ t. ((n == 0) || (nat_le 0x40 n && nat_le n 0xFE)) ≡ t → cond t (Some n) None ≡ Some b → is_text b ≡ true) [
      | true ↦ λ inside e. subst (λ m. is_text m ≡ true) (same n b e) (byte_one n inside)
      | false ↦ λ inside e. absurd cc
    ] refl is
  where
    same : (x y : ℕ) → Some x ≡ Some y → x ≡ y
    same x y e = cc

digits_text : (high low : Option ℕ) (b : ℕ) → (high >>? λ h. low >>? λ l. text_byte (h * 16 + l)) ≡ Some b → is_text b ≡ true
digits_text None low b e = absurd cc
digits_text (Some h) None b e = absurd cc
digits_text (Some h) (Some l) b e = byte_text (h * 16 + l) b e

bytes_good : (letters : List Letter) → IsGood (bytes_in letters)
bytes_good [] = refl
bytes_good (a ∷ []) = refl
bytes_good (a ∷ b ∷ rest) = before_good (byte_of a.code b.code) a.place (bytes_in rest) (λ n e. digits_text (digit_of a.code) (digit_of b.code) n e) (bytes_good rest)

digits_good : (value : List Letter) → IsGood (digits_of value)
digits_good value = elim ((length value % 2 == 1) || not (are_digits value)) as (λ d. IsGood (cond d another (bytes_in value))) [ true ↦ tt | false ↦ bytes_good value ]

abbrev IsTextIf : Option (List ℕ) → Type 0
IsTextIf None = Unit {0}
IsTextIf (Some text) = list_all is_text text ≡ true

read_text : (read : Read) → IsGood read → IsTextIf (text_in read)
read_text (codes text) good = good
read_text another good = tt
read_text (bad place) good = tt

value_good : (characters digits : Option (List Letter)) → IsTextIf (value_text characters digits)
value_good None None = tt
value_good None (Some digits) = read_text (digits_of digits) (digits_good digits)
value_good (Some characters) digits = read_text (string_of characters) (string_good (between characters 39 39))

blanks : (n : ℕ) → list_all is_text (replicate n 0x40) ≡ true
unfolding is_text
blanks zero = refl
blanks (suc n) = blanks n

padded_good : (text : Option (List ℕ)) (n : ℕ) → IsTextIf text → list_all is_text (padded text n) ≡ true
padded_good None n good = refl
padded_good (Some text) n good =
    list_all-append is_text text (replicate (n - length text) 0x40) ∙ both_true (list_all is_text text) (list_all is_text (replicate (n - length text) 0x40)) good (blanks (n - length text))

pub texts_are_text : TextsAreText
texts_are_text operands n = padded_good (initial_in operands) n (value_good (value_at _ operands) (value_at _ operands))
