-- One step of a loop over the positions of a range.
use Rattle.std.proofs.Common.{◌≡◌, ℕ, suc, ◌+◌, ◌-◌, ◌<◌, List, [], ◌∷◌, ◌++◌, append_assoc, map, sym, ◌∙◌, ap, arith}
use Rattle.std.specs.List.{range_with_len}

pub range_on : (at stop : ℕ) → at < stop → range_with_len at (stop - at) ≡ at ∷ range_with_len (at + 1) (stop - (at + 1))
range_on at stop lt = let e : stop - at ≡ suc (stop - (at + 1)) = omega arith in ap (range_with_len at) e

-- a position is pushed
pub shown_on : (f : ℕ → ℕ) (at stop : ℕ) (out new pushed first : List ℕ) → at < stop → new ≡ out ++ pushed → pushed ≡ f at ∷ []
    → out ++ map f (range_with_len at (stop - at)) ≡ first → new ++ map f (range_with_len (at + 1) (stop - (at + 1))) ≡ first
shown_on f at stop out new pushed first lt adds one before =
    ap (λ t. t ++ map f (range_with_len (at + 1) (stop - (at + 1)))) (adds ∙ ap (λ p. out ++ p) one)
    ∙ append_assoc out (f at ∷ []) (map f (range_with_len (at + 1) (stop - (at + 1))))
    ∙ ap (λ r. out ++ map f r) (sym (range_on at stop lt)) ∙ before
