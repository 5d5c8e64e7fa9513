-- Characters at the front of an answer's bytes.
use Rattle.std.proofs.Common.{◌≡◌, ℕ, zero, suc, ◌+◌, ◌-◌, ◌<◌, ◌≤◌, Bool, true, false, not, eqb, cond, ◌&&◌, List, [], ◌∷◌, ◌++◌, length, drop, Ok, Err, refl, sym, ap, subst, ◌∙◌, arith, append_assoc, length-append, length-drop, inl, inr}
use Rattle.std.specs.List.{list_all}
use Rattle.std.proofs.lemmas.Bool.{eqb-true}
use Rattle.std.proofs.lemmas.List.{append-nil}
use Rattle.std.proofs.lemmas.List.Concat.{flat_map-cons}
use Rattle.ds_codec.specs.Character.{Glyph, glyph, is_text, is_graphic}
use Rattle.ds_codec.specs.Writing.{written_character}
use Rattle.ds_codec.proofs.Below.{both_true}
use Rattle.ds_codec.proofs.Steps.{chosen, ok_is}
use Rattle.ds_inbound.specs.declared.refused.Why.{Why}
use Rattle.ds_inbound.specs.Answer.{written_characters}
use Rattle.ds_inbound.specs.Inbound.{is_sendable, IsGlyphThen, AreGlyphsThen}
use Rattle.ds_inbound.specs.Characters.{pair_at, plain_at, front_character, characters_from, characters_in}

-- ---- one character

-- how many bytes a character takes
abbrev pub size_of : Bool → ℕ
size_of true = 2
size_of false = 1

pub text_is_no : (code other : ℕ) → is_text code ≡ true → is_text other ≡ false → eqb code other ≡ false
text_is_no code other passes fails =
    elim (eqb code other) as (λ b. eqb code other ≡ b → b ≡ false) [
      | true ↦ λ same. let is : is_text other ≡ true = subst (λ k. is_text k ≡ true) (eqb-true code other same) passes in absurd cc
      | false ↦ λ differs. refl
    ] refl

not_true : (b : Bool) → not b ≡ true → b ≡ false
not_true true e = absurd cc
not_true false e = refl

-- what stands at the front is read there
pub glyph_again : (code : ℕ) (alt : Bool) (bytes rest : List ℕ) → IsGlyphThen (glyph code alt) bytes rest
    → (front_character bytes ≡ Ok (glyph code alt, size_of alt)) × (drop (size_of alt) bytes ≡ rest)
unfolding front_character pair_at is_text
glyph_again code true bytes rest (good, is) =
    let passes : is_graphic code ≡ true = (both_true (is_graphic code) true good).0 in
    (rw (is, passes) refl, rw is refl)
glyph_again code false bytes rest (good, is) =
    let passes : is_text code ≡ true = (both_true (is_text code) (not (eqb code 0)) good).0 in
    let some : eqb code 0 ≡ false = not_true (eqb code 0) (both_true (is_text code) (not (eqb code 0)) good).1 in
    let other : eqb code 8 ≡ false = text_is_no code 8 passes refl in
    (rw (is, other, some, passes) refl, rw is refl)

-- what a character at the front takes
pub record TakesGlyph (character : Glyph) (taken : ℕ) (bytes : List ℕ) : Type 0 where
  pub some : 0 < taken
  pub inside : taken ≤ length bytes
  pub then : IsGlyphThen character bytes (drop taken bytes)

pair_takes : (rest : List ℕ) (found : Glyph × ℕ) → pair_at rest ≡ Ok found → TakesGlyph found.0 found.1 (8 ∷ rest)
unfolding pair_at
pair_takes [] found e = absurd cc
pair_takes (code ∷ rest) found e =
    elim (chosen (is_graphic code) _ _ _ e) [
      | inl (passes, read) ↦
          let is : (glyph code true, 2) ≡ found = ok_is Why (glyph code true, 2) found read in
          subst (λ f. TakesGlyph f.0 f.1 (8 ∷ code ∷ rest)) is (record { some = omega arith; inside = omega arith; then = (rw passes refl, refl) })
      | inr (fails, read) ↦ absurd cc
    ]

plain_takes : (byte : ℕ) (rest : List ℕ) (found : Glyph × ℕ) → plain_at byte ≡ Ok found → TakesGlyph found.0 found.1 (byte ∷ rest)
plain_takes byte rest found e =
    elim (chosen (eqb byte 0) _ _ _ e) [
      | inl (none, read) ↦ absurd cc
      | inr (some, read) ↦ elim (chosen (is_text byte) _ _ _ read) [
        | inl (passes, told) ↦
            let is : (glyph byte false, 1) ≡ found = ok_is Why (glyph byte false, 1) found told in
            subst (λ f. TakesGlyph f.0 f.1 (byte ∷ rest)) is (record { some = omega arith; inside = omega arith; then = (rw (passes, some) refl, refl) })
        | inr (fails, told) ↦ absurd cc
      ]
    ]

pub glyph_taken : (bytes : List ℕ) (found : Glyph × ℕ) → front_character bytes ≡ Ok found → TakesGlyph found.0 found.1 bytes
unfolding front_character
glyph_taken [] found e = absurd cc
glyph_taken (byte ∷ more) found e =
    elim (chosen (eqb byte 8) _ _ _ e) [
      | inl (same, read) ↦ subst (λ b. TakesGlyph found.0 found.1 (b ∷ more)) (sym (eqb-true byte 8 same)) (pair_takes more found read)
      | inr (other, read) ↦ plain_takes byte more found read
    ]

-- ---- the characters at the front

skips : (skip : ℕ) (bytes : List ℕ) → characters_from skip bytes ≡ characters_from 0 (drop skip bytes)
skips zero bytes = refl
skips (suc skip) [] = refl
skips (suc skip) (byte ∷ rest) = skips skip rest

from_step : (byte : ℕ) (rest : List ℕ) (character : Glyph) (n : ℕ) → front_character (byte ∷ rest) ≡ Ok (character, n) → 0 < n
    → characters_from 0 (byte ∷ rest) ≡ character ∷ characters_from 0 (drop n (byte ∷ rest))
from_step byte rest character zero e some = absurd (omega arith)
from_step byte rest character (suc n) e some =
    let back : suc n - 1 ≡ n = omega arith in
    rw (e, back, skips n rest) refl

pub characters_step : (bytes : List ℕ) (found : Glyph × ℕ) → front_character bytes ≡ Ok found
    → characters_in bytes ≡ found.0 ∷ characters_in (drop found.1 bytes)
unfolding characters_in front_character
characters_step [] found e = absurd cc
characters_step (byte ∷ rest) found e = from_step byte rest found.0 found.1 e (glyph_taken (byte ∷ rest) found e).some

pub characters_stop : (bytes : List ℕ) (why : Why) → front_character bytes ≡ Err why → characters_in bytes ≡ []
unfolding characters_in
characters_stop [] why e = refl
characters_stop (byte ∷ rest) why e = rw e refl

-- characters that stand at the front are those that are read there
pub characters_again : (characters : List Glyph) (bytes rest : List ℕ) → AreGlyphsThen characters bytes rest
    → characters_in bytes ≡ characters ++ characters_in rest
characters_again [] bytes rest is = rw is refl
characters_again (character ∷ characters) bytes rest (more, here, later) =
    let again = glyph_again character.code character.alt bytes more here in
    characters_step bytes (character, size_of character.alt) again.0
    ∙ ap (λ b. character ∷ characters_in b) again.1
    ∙ ap (λ cs. character ∷ cs) (characters_again characters more rest later)

-- the characters that are read stand there, and behind them none
pub record HaveGlyphs (bytes : List ℕ) : Type 0 where
  pub rest : List ℕ
  pub then : AreGlyphsThen (characters_in bytes) bytes rest
  pub none : characters_in rest ≡ []

no_glyphs : (bytes : List ℕ) → characters_in bytes ≡ [] → HaveGlyphs bytes
no_glyphs bytes e = record { rest = bytes; then = rw e refl; none = e }

one_more : (bytes : List ℕ) (found : Glyph × ℕ) → front_character bytes ≡ Ok found → HaveGlyphs (drop found.1 bytes) → HaveGlyphs bytes
one_more bytes found e have =
    record {
      rest = have.rest;
      then = rw (characters_step bytes found e) (drop found.1 bytes, (glyph_taken bytes found e).then, have.then);
      none = have.none;
    }

pub no_characters : characters_in [] ≡ []
unfolding characters_in
no_characters = refl

have_within : (n : ℕ) (bytes : List ℕ) → length bytes ≤ n → HaveGlyphs bytes
have_within n [] short = no_glyphs [] no_characters
have_within zero (byte ∷ rest) short = absurd (omega arith)
have_within (suc n) (byte ∷ rest) short =
    elim (front_character (byte ∷ rest)) as (λ r. front_character (byte ∷ rest) ≡ r → HaveGlyphs (byte ∷ rest)) [
      | Err why ↦ λ read. no_glyphs (byte ∷ rest) (characters_stop (byte ∷ rest) why read)
      | Ok found ↦ λ read.
          let some : 0 < found.1 = (glyph_taken (byte ∷ rest) found read).some in
          one_more (byte ∷ rest) found read (have_within n (drop found.1 (byte ∷ rest)) (omega (arith, length-drop found.1 (byte ∷ rest))))
    ] refl

pub have_glyphs : (bytes : List ℕ) → HaveGlyphs bytes
have_glyphs bytes = have_within (length bytes) bytes (omega arith)

-- ---- characters as bytes

one_written : (character : Glyph) (rest : List ℕ) → cond character.alt (8 ∷ character.code ∷ rest) (character.code ∷ rest) ≡ written_character character ++ rest
one_written character rest = elim character.alt as (λ b. cond b (8 ∷ character.code ∷ rest) (character.code ∷ rest) ≡ cond b (8 ∷ character.code ∷ []) (character.code ∷ []) ++ rest) [ true ↦ refl | false ↦ refl ]

-- characters and then a rest are what is written for them before that rest
pub written_then : (characters : List Glyph) (bytes rest : List ℕ) → AreGlyphsThen characters bytes rest → bytes ≡ written_characters characters ++ rest
written_then [] bytes rest is = is
written_then (character ∷ characters) bytes rest (more, here, later) =
    here.1 ∙ one_written character more ∙ ap (λ b. written_character character ++ b) (written_then characters more rest later)
    ∙ sym (append_assoc (written_character character) (written_characters characters) rest)
    ∙ ap (λ b. b ++ rest) (sym (flat_map-cons written_character character characters))

-- characters that can be sent, written before a rest
pub then_written : (characters : List Glyph) (rest : List ℕ) → list_all is_sendable characters ≡ true → AreGlyphsThen characters (written_characters characters ++ rest) rest
then_written [] rest good = refl
then_written (character ∷ characters) rest good =
    let parts = both_true _ _ good in (
      written_characters characters ++ rest,
      (
        parts.0,
        ap (λ b. b ++ rest) (flat_map-cons written_character character characters) ∙ append_assoc (written_character character) (written_characters characters) rest
            ∙ sym (one_written character (written_characters characters ++ rest)),
      ),
      then_written characters rest parts.1,
    )

-- ---- how long the run of characters at the front is

-- characters and a rest have the length of both
pub run_after : (bytes : List ℕ) (found : Glyph × ℕ) → front_character bytes ≡ Ok found
    → length (written_characters (characters_in bytes)) ≡ found.1 + length (written_characters (characters_in (drop found.1 bytes)))
run_after bytes found e =
    let takes = glyph_taken bytes found e in
    let one : length bytes ≡ length (written_character found.0) + length (drop found.1 bytes) =
    ap length (takes.then.1 ∙ one_written found.0 (drop found.1 bytes)) ∙ length-append (written_character found.0) (drop found.1 bytes) in
    let size : length (written_character found.0) ≡ found.1 = omega (arith, one, length-drop found.1 bytes, takes.inside) in
    ap (λ cs. length (written_characters cs)) (characters_step bytes found e)
    ∙ ap length (flat_map-cons written_character found.0 (characters_in (drop found.1 bytes)))
    ∙ length-append (written_character found.0) (written_characters (characters_in (drop found.1 bytes)))
    ∙ ap (λ n. n + length (written_characters (characters_in (drop found.1 bytes)))) size

pub run_none : (bytes : List ℕ) (why : Why) → front_character bytes ≡ Err why → length (written_characters (characters_in bytes)) ≡ 0
run_none bytes why e = ap (λ cs. length (written_characters cs)) (characters_stop bytes why e)

-- ---- what is written is read again

and_true : (a b : Bool) → a ≡ true → b ≡ true → (a && b) ≡ true
and_true a b e f = rw (e, f) refl

pub sendable_then : (characters : List Glyph) (bytes rest : List ℕ) → AreGlyphsThen characters bytes rest → list_all is_sendable characters ≡ true
sendable_then [] bytes rest is = refl
sendable_then (character ∷ characters) bytes rest (more, here, later) = and_true (is_sendable character) _ here.0 (sendable_then characters more rest later)

pub characters_written : (characters : List Glyph) → list_all is_sendable characters ≡ true → characters_in (written_characters characters) ≡ characters
characters_written characters good =
    ap characters_in (sym (append-nil (written_characters characters)))
    ∙ characters_again characters (written_characters characters ++ []) [] (then_written characters [] good)
    ∙ ap (λ cs. characters ++ cs) no_characters ∙ append-nil characters

-- ---- no more characters than bytes

few_within : (n : ℕ) (bytes : List ℕ) → length bytes ≤ n → length (characters_in bytes) ≤ length bytes
few_within n [] short = rw no_characters (omega arith)
few_within zero (byte ∷ rest) short = absurd (omega arith)
few_within (suc n) (byte ∷ rest) short =
    elim (front_character (byte ∷ rest)) as (λ r. front_character (byte ∷ rest) ≡ r → length (characters_in (byte ∷ rest)) ≤ length (byte ∷ rest)) [
      | Err why ↦ λ read. rw (characters_stop (byte ∷ rest) why read) (omega arith)
      | Ok found ↦ λ read.
          let takes = glyph_taken (byte ∷ rest) found read in
          let some : 0 < found.1 = takes.some in
          let behind : length (drop found.1 (byte ∷ rest)) ≤ n = omega (arith, length-drop found.1 (byte ∷ rest)) in
          let fewer : length (characters_in (drop found.1 (byte ∷ rest))) ≤ length (drop found.1 (byte ∷ rest)) = few_within n (drop found.1 (byte ∷ rest)) behind in
          rw (characters_step (byte ∷ rest) found read) (omega (arith, fewer, length-drop found.1 (byte ∷ rest)))
    ] refl

pub characters_few : (bytes : List ℕ) → length (characters_in bytes) ≤ length bytes
characters_few bytes = few_within (length bytes) bytes (omega arith)
