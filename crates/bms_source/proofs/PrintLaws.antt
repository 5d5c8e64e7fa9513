-- Characters that are printed one after the other.
use Rattle.std.proofs.Common.{◌≡◌, ℕ, List, ◌∷◌, ◌++◌, sym, ◌∙◌, ap, append_assoc}
use Rattle.std.specs.List.{flat_map}

pub printed_next : (texts : ℕ → List ℕ) (now next rest left : List ℕ) (code : ℕ) (all : List ℕ) → rest ≡ code ∷ left → next ≡ now ++ texts code
    → now ++ flat_map texts rest ≡ all → next ++ flat_map texts left ≡ all
printed_next texts now next rest left code all is same had =
    ap (λ l. l ++ flat_map texts left) same ∙ append_assoc now (texts code) (flat_map texts left) ∙ ap (λ l. now ++ flat_map texts l) (sym is) ∙ had
