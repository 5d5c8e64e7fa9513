-- The runs of a text, read back.
use Rattle.std.proofs.Common.{◌≡◌, ◌<◌, ℕ, suc, ◌+◌, ◌*◌, ◌/◌, ◌%◌, Bool, true, false, List, [], ◌∷◌, ◌++◌, Option, Some, None, refl, sym, ap, arith}
use Rattle.std.specs.Prelude.{not, ◌&&◌, ◌==◌}
use Rattle.std.specs.List.{list_all, range_with_len}
use Rattle.std.specs.Fmt.{digit_glyph}
use Rattle.std.proofs.lemmas.List.{append_assoc}
use Rattle.std.proofs.lemmas.Bool.{eqb-true}
use Rattle.hex.specs.Hex.{IsBytes, hex_digit_value}
use Rattle.ds_codec.proofs.Below.{both_true}
use Rattle.order_lines.specs.Print.{hex_byte}
use Rattle.cli_characters.specs.declared.runs.Before.{Before}
use Rattle.cli_characters.specs.declared.runs.Before.TheVariants as before
use Rattle.cli_characters.specs.declared.place.Place.{Place}
use Rattle.cli_characters.specs.declared.place.Place.TheVariants as place
use Rattle.cli_characters.specs.Laws.{RunsAreRead}
use Rattle.cli_characters.specs.Operand.{told_from}
use Rattle.cli_characters.specs.Runs.{in_quotes, opens, leads, ends, byte_text, after_byte, runs_after}
use Rattle.cli_characters.specs.Table.{code_of, character_of}
use Rattle.cli_characters.proofs.Codes.{below, has, has_is, bool_not, characters_are_read}

-- where the reading of what follows begins
abbrev place_of : Before → Place
place_of before.Nothing = place.Begins
place_of before.Characters = place.Inside
place_of before.Digits = place.Digits

-- ---- characters

opened : (stands : Before) (rest told : List ℕ) → told_from place.Inside rest ≡ Some told → told_from (place_of stands) (opens stands ++ rest) ≡ Some told
opened before.Nothing rest told is = rw is refl
opened before.Characters rest told is = is
opened before.Digits rest told is = rw is refl

quoted_by : (b : Bool) (c code : ℕ) (rest told : List ℕ) → (c == 39) ≡ b → code_of c ≡ Some code → (c ≡ 39 → code ≡ 0x7D) → told_from place.Inside rest ≡ Some told
    → told_from place.Inside (in_quotes c ++ rest) ≡ Some (code ∷ told)
quoted_by true c code rest told is coded quote read = rw (is, quote (eqb-true c 39 is), read) refl
quoted_by false c code rest told is coded quote read = rw (is, is, coded, read) refl

-- ---- digits

digit_good : ℕ → Bool
digit_good value = has value (hex_digit_value (digit_glyph true value)) && (not (digit_glyph true value == 39) && not (digit_glyph true value == 32))

all_good : list_all digit_good (range_with_len 0 16) ≡ true
unfolding digit_good
all_good = refl

record IsDigit (c value : ℕ) : Type 0 where
  is_value : hex_digit_value c ≡ Some value
  no_quote : (c == 39) ≡ false
  no_space : (c == 32) ≡ false

digit_of : (value : ℕ) → value < 16 → IsDigit (digit_glyph true value) value
unfolding digit_good
digit_of value small =
    let good = both_true (has value (hex_digit_value (digit_glyph true value))) (not (digit_glyph true value == 39) && not (digit_glyph true value == 32)) (below digit_good 16 value all_good small) in
    let others = both_true (not (digit_glyph true value == 39)) (not (digit_glyph true value == 32)) good.1 in
    record { is_value = has_is value _ good.0; no_quote = bool_not _ others.0; no_space = bool_not _ others.1 }

pair : (h l high low byte : ℕ) (rest told : List ℕ) → hex_digit_value h ≡ Some high → hex_digit_value l ≡ Some low → 16 * high + low ≡ byte → told_from place.Digits rest ≡ Some told
    → told_from (place.Half h) (l ∷ rest) ≡ Some (byte ∷ told)
pair h l high low byte rest told first second is read = rw (first, second, is, read) refl

after_leads : (stands : Before) (h high : ℕ) (more told : List ℕ) → IsDigit h high → told_from (place.Half h) more ≡ Some told → told_from (place_of stands) (leads stands ++ (h ∷ more)) ≡ Some told
after_leads before.Nothing h high more told digit read = rw (digit.no_quote, digit.is_value, read) refl
after_leads before.Characters h high more told digit read = rw (digit.no_quote, digit.is_value, read) refl
after_leads before.Digits h high more told digit read = rw (digit.no_space, digit.is_value, read) refl

-- ---- a byte, and then all

value_or : ℕ → Option ℕ → ℕ
value_or d None = d
value_or d (Some x) = x

some_same : (a b : ℕ) → Some a ≡ Some b → b ≡ a
unfolding value_or
some_same a b is = ap (value_or b) (sym is)

quote_code : (c byte : ℕ) → c ≡ 39 → code_of c ≡ Some byte → byte ≡ 0x7D
unfolding code_of
quote_code c byte same coded = let at : code_of 39 ≡ Some byte = rw same at coded in some_same 0x7D byte at

front : (stands : Before) (byte : ℕ) (rest told : List ℕ) (o : Option ℕ) → byte < 256 → character_of byte ≡ o → told_from (place_of (after_byte o)) rest ≡ Some told
    → told_from (place_of stands) (byte_text stands byte o ++ rest) ≡ Some (byte ∷ told)
front stands byte rest told (Some c) small is read =
    let coded : code_of c ≡ Some byte = characters_are_read byte c small is in
    let quote : c ≡ 39 → byte ≡ 0x7D = λ same. quote_code c byte same coded in
    rw (append_assoc (opens stands) (in_quotes c) rest) (opened stands (in_quotes c ++ rest) (byte ∷ told) (quoted_by (c == 39) c byte rest told refl coded quote read))
front stands byte rest told None small is read =
    let high = digit_of (byte / 16) (omega arith) in
    let low = digit_of (byte % 16) (omega arith) in
    rw (append_assoc (leads stands) (hex_byte byte) rest)
    (after_leads stands (digit_glyph true (byte / 16)) (byte / 16) (digit_glyph true (byte % 16) ∷ rest) (byte ∷ told) high
    (pair (digit_glyph true (byte / 16)) (digit_glyph true (byte % 16)) (byte / 16) (byte % 16) byte rest told high.is_value low.is_value (omega arith) read))

ended : (o : Option ℕ) → told_from (place_of (after_byte o)) (ends (after_byte o)) ≡ Some []
ended (Some c) = refl
ended None = refl

rest_read : (o : Option ℕ) (bytes : List ℕ) → IsBytes bytes → told_from (place_of (after_byte o)) (runs_after (after_byte o) bytes) ≡ Some bytes
rest_read o [] small = ended o
rest_read o (byte ∷ bytes) small =
    front (after_byte o) byte (runs_after (after_byte (character_of byte)) bytes) bytes (character_of byte) (small 0) refl (rest_read (character_of byte) bytes (λ i. small (suc i)))

pub runs_are_read : RunsAreRead
runs_are_read [] small some = absurd (omega arith)
runs_are_read (byte ∷ bytes) small some =
    front before.Nothing byte (runs_after (after_byte (character_of byte)) bytes) bytes (character_of byte) (small 0) refl (rest_read (character_of byte) bytes (λ i. small (suc i)))
