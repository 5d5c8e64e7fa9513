-- Bytes without a tag.
use Rattle.std.proofs.Common.{◌≡◌, ℕ, ◌+◌, ◌%◌, ◌<◌, ◌^◌, Bool, true, false, List, [], ◌∷◌, ◌++◌, refl, sym, ap, ◌∙◌, arith}
use Rattle.std.specs.Prelude.{not, ◌==◌}
use Rattle.std.specs.List.{list_all}
use Rattle.std.specs.Fmt.{decimal}
use Rattle.std.proofs.lemmas.Bool.{and_parts, ne_eqb}
use Rattle.std.proofs.lemmas.List.Folds.{list_all-append}
use Rattle.std.proofs.lemmas.Fmt.{decimal_by_steps}
use Rattle.cli_pictures.specs.Laws.{texts_in}

-- no byte begins a tag
abbrev pub is_bare : ℕ → Bool
is_bare byte = not (byte == 0x3C)

abbrev pub are_bare : List ℕ → Bool
are_bare bytes = list_all is_bare bytes

not_false : (b : Bool) → not b ≡ true → b ≡ false
not_false true e = sym e
not_false false e = refl

-- what has no tag has no text
pub skips : (bytes rest : List ℕ) → are_bare bytes ≡ true → texts_in (bytes ++ rest) ≡ texts_in rest
skips [] rest bare = refl
skips (b ∷ bytes) rest bare =
    let parts = and_parts (is_bare b) (are_bare bytes) bare in
    let other : (b == 0x3C) ≡ false = not_false (b == 0x3C) parts.0 in
    rw other (skips bytes rest parts.1)

pub both_bare : (a b : List ℕ) → are_bare a ≡ true → are_bare b ≡ true → are_bare (a ++ b) ≡ true
both_bare a b one two = list_all-append is_bare a b ∙ (rw (one, two) refl)

digit_bare : (d : ℕ) → d < 10 → is_bare (48 + d) ≡ true
digit_bare d lt = ap not (ne_eqb (48 + d) 0x3C (λ e. omega arith))

pub decimal_bare : (n : ℕ) → n < 2 ^ 64 → are_bare (decimal n) ≡ true
decimal_bare n lt =
    decimal_by_steps (λ n ds. are_bare ds ≡ true) (λ n lt. rw (digit_bare n lt) refl)
    (λ n ds ge bare. both_bare ds ((48 + n % 10) ∷ []) bare (rw (digit_bare (n % 10) (omega arith)) refl)) n lt
