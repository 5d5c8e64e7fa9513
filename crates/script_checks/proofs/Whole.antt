-- Texts without a line's end.
use Rattle.std.proofs.Common.{◌≡◌, ◌<◌, ◌+◌, ◌-◌, ◌/◌, ◌%◌, ℕ, zero, suc, Bool, true, false, cond, List, [], ◌∷◌, ◌++◌, map, refl, ap, ◌∙◌, arith}
use Rattle.std.specs.Prelude.{◌&&◌, not, ◌==◌, nat_lt}
use Rattle.std.specs.List.{list_all}
use Rattle.std.specs.Fmt.{decimal, digits, digits_onto, digit_glyph}
use Rattle.std.proofs.lemmas.Bool.{ne_eqb}
use Rattle.std.proofs.lemmas.Bool.Decides.{nat_tests}
use Rattle.std.proofs.lemmas.List.Folds.{list_all-append}
use Rattle.script_screens.specs.Laws.{is_whole, are_whole}
use Rattle.script_checks.specs.Lines.{clean_byte, clean}

pub and_true : (a b : Bool) → a ≡ true → b ≡ true → (a && b) ≡ true
and_true true b p q = q
and_true false b p q = p

either_way : {A : Type 0} (P : A → Type 0) (test : Bool) (y z : A) → P y → P z → P (cond test y z)
either_way P true y z p q = p
either_way P false y z p q = q

-- ---- put together

pub join : (xs ys : List ℕ) → is_whole xs ≡ true → is_whole ys ≡ true → is_whole (xs ++ ys) ≡ true
join xs ys first second = list_all-append (λ byte. not (byte == 10)) xs ys ∙ and_true _ _ first second

pub one_text : (text : List ℕ) → is_whole text ≡ true → are_whole (text ∷ []) ≡ true
one_text text whole = and_true _ _ whole refl

pub more_texts : (text : List ℕ) (texts : List (List ℕ)) → is_whole text ≡ true → are_whole texts ≡ true → are_whole (text ∷ texts) ≡ true
more_texts text texts whole others = and_true _ _ whole others

pub all_texts : {X : Type 0} (f : X → List ℕ) (xs : List X) → ((x : X) → is_whole (f x) ≡ true) → are_whole (map f xs) ≡ true
all_texts f [] each = refl
all_texts f (x ∷ xs) each = and_true _ _ (each x) (all_texts f xs each)

-- ---- names

clean_whole_byte : (byte : ℕ) → not (clean_byte byte == 10) ≡ true
clean_whole_byte byte = grind (arith, nat_tests)

pub clean_whole : (name : List ℕ) → is_whole (clean name) ≡ true
clean_whole [] = refl
clean_whole (byte ∷ bytes) = and_true _ _ (clean_whole_byte byte) (clean_whole bytes)

-- ---- numbers

other : (n : ℕ) → 10 < n → not (n == 10) ≡ true
other n more = ap not (ne_eqb n 10 (λ is. omega (arith, more, is)))

glyph_whole : (d : ℕ) → not (digit_glyph false d == 10) ≡ true
glyph_whole d = either_way (λ n. not (n == 10) ≡ true) (nat_lt d 10) (48 + d) (87 + d) (other (48 + d) (omega arith)) (other (87 + d) (omega arith))

digits_whole : (k n : ℕ) (acc : List ℕ) → is_whole acc ≡ true → is_whole (digits_onto k 10 false n acc) ≡ true
digits_whole zero n acc whole = whole
digits_whole (suc k) n acc whole =
    let one : is_whole (digit_glyph false (n % 10) ∷ acc) ≡ true = and_true _ _ (glyph_whole (n % 10)) whole in
    either_way (λ text. is_whole text ≡ true) (n / 10 == 0) (digit_glyph false (n % 10) ∷ acc) (digits_onto k 10 false (n / 10) (digit_glyph false (n % 10) ∷ acc))
    one (digits_whole k (n / 10) (digit_glyph false (n % 10) ∷ acc) one)

pub decimal_whole : (n : ℕ) → is_whole (decimal n) ≡ true
unfolding digits
decimal_whole n = digits_whole 64 n [] refl

-- ---- texts

-- a text without a line's end
pub record Whole (text : List ℕ) : Type 0 where
  pub whole : is_whole text ≡ true

pub lit : (text : List ℕ) → is_whole text ≡ true → Whole text
lit text is = record { whole = is }

pub num : (n : ℕ) → Whole (decimal n)
num n = record { whole = decimal_whole n }

pub cleaned : (name : List ℕ) → Whole (clean name)
cleaned name = record { whole = clean_whole name }

pub plus : {a b : List ℕ} → Whole a → Whole b → Whole (a ++ b)
plus {a} {b} first second = record { whole = join a b first.whole second.whole }
