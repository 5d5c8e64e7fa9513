-- Pairs read one after the other.
use Rattle.std.proofs.Common.{◌≡◌, ℕ, Bool, true, false, cond, ◌&&◌, eqb, List, [], ◌∷◌, Option, Some, None, refl, sym, ap, ◌∙◌}
use Rattle.buffer_lines.specs.Cell.{after_pair, are_pairs, is_end, is_pair}

-- all pairs, from what follows the first
abbrev pub after_first : Option (List ℕ) → List ℕ → Bool
after_first None text = is_end text
after_first (Some rest) text = are_pairs rest

first_of : (text : List ℕ) → are_pairs text ≡ after_first (after_pair text) text
first_of [] = refl
first_of (s ∷ []) = refl
first_of (s ∷ a ∷ []) = refl
first_of (s ∷ a ∷ b ∷ []) = refl
first_of (s ∷ a ∷ b ∷ e ∷ []) = refl
first_of (s ∷ a ∷ b ∷ e ∷ c ∷ []) = refl
first_of (s ∷ a ∷ b ∷ e ∷ c ∷ d ∷ rest) =
    elim (eqb s 0x2C && is_pair a b e c d) as (λ t. cond t (are_pairs rest) false ≡ after_first (cond t (Some rest) None) (s ∷ a ∷ b ∷ e ∷ c ∷ d ∷ rest)) [
      | true ↦ refl
      | false ↦ refl
    ]

pub pair_passed : (whole text rest : List ℕ) → are_pairs text ≡ are_pairs whole → Some rest ≡ after_pair text → are_pairs rest ≡ are_pairs whole
pair_passed whole text rest so_far is = ap (λ after. after_first after text) is ∙ sym (first_of text) ∙ so_far

pub no_pair : (whole text : List ℕ) → are_pairs text ≡ are_pairs whole → None ≡ after_pair text → is_end text ≡ are_pairs whole
no_pair whole text so_far is = ap (λ after. after_first after text) is ∙ sym (first_of text) ∙ so_far
