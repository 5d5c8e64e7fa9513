-- Pairs read one after the other.
use Rattle.std.proofs.Common.{◌≡◌, ℕ, true, false, cond, eqb, List, [], ◌∷◌, ◌++◌, length, Option, Some, None, refl, sym, ap, ◌∙◌, append_assoc}
use Rattle.std.specs.Option.{option_map}
use Rattle.order_lines.specs.Words.{pair_told, pair_before, first_pair_of, pairs_more, pairs_told}

-- what is told, behind what was told before
abbrev pub before_pairs : List ℕ → Option (List ℕ) → Option (List ℕ)
before_pairs bytes told = option_map (λ others. bytes ++ others) told

-- all pairs, from the first and what follows it
abbrev after_first : Option (ℕ × ℕ × List ℕ) → Option (List ℕ)
after_first None = None
after_first (Some first) = pairs_more (Some (first.0, first.1)) (pairs_told first.2)

from_pair : (pair : Option (ℕ × ℕ)) (rest : List ℕ) → pairs_more pair (pairs_told rest) ≡ after_first (pair_before pair rest)
from_pair (Some pair) rest = refl
from_pair None rest = refl

first_of : (words : List ℕ) → eqb (length words) 0 ≡ false → pairs_told words ≡ after_first (first_pair_of words)
first_of [] some = absurd cc
first_of (s ∷ []) some = refl
first_of (s ∷ a ∷ []) some = refl
first_of (s ∷ a ∷ b ∷ []) some = refl
first_of (s ∷ a ∷ b ∷ e ∷ []) some = refl
first_of (s ∷ a ∷ b ∷ e ∷ c ∷ []) some = refl
first_of (s ∷ a ∷ b ∷ e ∷ c ∷ d ∷ rest) some =
    let pair = pair_told (a ∷ b ∷ e ∷ c ∷ d ∷ []) in
    elim (eqb s 0x20) as (λ t. cond t (pairs_more pair (pairs_told rest)) None ≡ after_first (cond t (pair_before pair rest) None)) [
      | true ↦ from_pair pair rest
      | false ↦ refl
    ]

front_more : (bytes : List ℕ) (kind value : ℕ) (others : Option (List ℕ)) → before_pairs (bytes ++ kind ∷ value ∷ []) others ≡ before_pairs bytes (pairs_more (Some (kind, value)) others)
front_more bytes kind value None = refl
front_more bytes kind value (Some others) = ap Some (append_assoc bytes (kind ∷ value ∷ []) others)

-- a pair more was read
pub pair_pushed : (bytes after words rest others : List ℕ) (kind value : ℕ) → before_pairs bytes (pairs_told rest) ≡ pairs_told words → eqb (length rest) 0 ≡ false
    → Some (kind, value, others) ≡ first_pair_of rest → after ≡ bytes ++ kind ∷ value ∷ [] → before_pairs after (pairs_told others) ≡ pairs_told words
pair_pushed bytes after words rest others kind value so_far some first is =
    rw is (front_more bytes kind value (pairs_told others) ∙ ap (before_pairs bytes) (ap after_first first ∙ sym (first_of rest some)) ∙ so_far)

-- what follows begins with no pair
pub no_pair : (bytes words rest : List ℕ) → before_pairs bytes (pairs_told rest) ≡ pairs_told words → eqb (length rest) 0 ≡ false → None ≡ first_pair_of rest → None ≡ pairs_told words
no_pair bytes words rest so_far some none =
    ap (before_pairs bytes) (ap after_first none ∙ sym (first_of rest some)) ∙ so_far
