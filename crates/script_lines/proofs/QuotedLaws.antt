-- A text between quotes, read byte by byte.
use Rattle.std.proofs.Common.{◌≡◌, ◌≤◌, ◌<◌, ◌∙◌, ◌==◌, ◌&&◌, cond, ap, sym, refl, ℕ, zero, suc, arith, List, [], ◌∷◌, ◌++◌, length, drop, Option, Some, None, append_assoc}
use Rattle.std.proofs.lemmas.List.{append-nil}
use Rattle.script_lines.specs.Quoted.{Taken, nothing, ends, closes, one, begins_quote, after_backslash, taken, with_bytes, then_taken, unquoted_within, unquoted}
use Rattle.script_lines.proofs.Tests.{by_test}

abbrev Shortens : ℕ → Taken → Type 0
Shortens size nothing = Unit {0}
Shortens size (ends rest) = Unit {0}
Shortens size (closes rest) = Unit {0}
Shortens size (one byte rest) = length rest < size

after_shortens : (size : ℕ) (bytes : List ℕ) → length bytes < size → Shortens size (after_backslash bytes)
after_shortens size [] within = within
after_shortens size (b ∷ bytes) within =
    by_test (Shortens size) (b == 0x22) (one 0x22 bytes) (cond ((b == 0x5C) && begins_quote bytes) (closes (drop 1 bytes)) (one 0x5C (b ∷ bytes)))
    (omega (arith, within))
    (by_test (Shortens size) ((b == 0x5C) && begins_quote bytes) (closes (drop 1 bytes)) (one 0x5C (b ∷ bytes)) tt within)

shortens : (bytes : List ℕ) → Shortens (length bytes) (taken bytes)
shortens [] = tt
shortens (b ∷ bytes) =
    by_test (Shortens (length (b ∷ bytes))) (b == 0x22) (ends bytes) (cond (b == 0x5C) (after_backslash bytes) (one b bytes)) tt
    (by_test (Shortens (length (b ∷ bytes))) (b == 0x5C) (after_backslash bytes) (one b bytes)
    (after_shortens (length (b ∷ bytes)) bytes (omega arith)) (omega arith))

then_same : (size : ℕ) (t : Taken) (f g : List ℕ → Option (List ℕ × List ℕ)) → Shortens size t
    → ((rest : List ℕ) → length rest < size → f rest ≡ g rest) → then_taken t f ≡ then_taken t g
then_same size nothing f g shorter same = refl
then_same size (ends rest) f g shorter same = refl
then_same size (closes rest) f g shorter same = refl
then_same size (one byte rest) f g shorter same = ap (with_bytes (byte ∷ [])) (same rest shorter)

steady : (most enough : ℕ) (bytes : List ℕ) → length bytes < most → length bytes < enough → unquoted_within most bytes ≡ unquoted_within enough bytes
unfolding unquoted_within
steady zero enough bytes few others = absurd (omega (arith, few))
steady (suc most) zero bytes few others = absurd (omega (arith, others))
steady (suc most) (suc enough) bytes few others =
    then_same (length bytes) (taken bytes) (unquoted_within most) (unquoted_within enough) (shortens bytes)
    (λ rest shorter. steady most enough rest (omega (arith, shorter, few)) (omega (arith, shorter, others)))

stepped : (bytes : List ℕ) → unquoted bytes ≡ then_taken (taken bytes) unquoted
unfolding unquoted_within
stepped bytes =
    then_same (length bytes) (taken bytes) (unquoted_within (length bytes)) unquoted (shortens bytes)
    (λ rest shorter. steady (length bytes) (suc (length rest)) rest shorter (omega arith))

none_before : (o : Option (List ℕ × List ℕ)) → with_bytes [] o ≡ o
none_before None = refl
none_before (Some parts) = refl

more_before : (text : List ℕ) (byte : ℕ) (o : Option (List ℕ × List ℕ)) → with_bytes (text ++ byte ∷ []) o ≡ with_bytes text (with_bytes (byte ∷ []) o)
more_before text byte None = refl
more_before text byte (Some parts) = ap (λ (xs : List ℕ). Some (xs, parts.1)) (append_assoc text (byte ∷ []) parts.0)

-- what was read of a text, and what is left
pub record IsReading (text rest bytes : List ℕ) : Type 0 where
  pub same : with_bytes text (unquoted rest) ≡ unquoted bytes
  pub shorter : length rest ≤ length bytes

pub begins : (text bytes : List ℕ) → text ≡ [] → IsReading text bytes bytes
begins text bytes none = record { same = ap (λ (xs : List ℕ). with_bytes xs (unquoted bytes)) none ∙ none_before (unquoted bytes); shorter = omega arith }

front : (text rest bytes : List ℕ) (t : Taken) → IsReading text rest bytes → t ≡ taken rest → with_bytes text (then_taken t unquoted) ≡ unquoted bytes
front text rest bytes t reading is = ap (λ (u : Taken). with_bytes text (then_taken u unquoted)) is ∙ ap (with_bytes text) (sym (stepped rest)) ∙ reading.same

pub goes_on : (text new rest after bytes : List ℕ) (byte : ℕ) → IsReading text rest bytes → one byte after ≡ taken rest → new ≡ text ++ byte ∷ []
    → length after < length rest → IsReading new after bytes
goes_on text new rest after bytes byte reading is pushed shorter = record {
  same = ap (λ (xs : List ℕ). with_bytes xs (unquoted after)) pushed ∙ more_before text byte (unquoted after) ∙ front text rest bytes (one byte after) reading is;
  shorter = let before = reading.shorter in omega (arith, shorter, before);
}

pub is_ended : (text rest after bytes : List ℕ) → IsReading text rest bytes → ends after ≡ taken rest → Some (text, after) ≡ unquoted bytes
is_ended text rest after bytes reading is =
    ap (λ (xs : List ℕ). Some (xs, after)) (sym (append-nil text)) ∙ front text rest bytes (ends after) reading is

pub is_closed : (text new rest after bytes : List ℕ) → IsReading text rest bytes → closes after ≡ taken rest → new ≡ text ++ 0x5C ∷ [] → Some (new, after) ≡ unquoted bytes
is_closed text new rest after bytes reading is pushed =
    ap (λ (xs : List ℕ). Some (xs, after)) pushed ∙ front text rest bytes (closes after) reading is

pub is_missing : (text rest bytes : List ℕ) → IsReading text rest bytes → nothing ≡ taken rest → None ≡ unquoted bytes
is_missing text rest bytes reading is = front text rest bytes nothing reading is
