-- Keys that are pressed, one after the other.
use Rattle.std.proofs.Common.{◌≡◌, ◌+◌, ℕ, zero, suc, List, [], ◌∷◌, ◌++◌, map, replicate, refl, ap, ◌∙◌, append_assoc, arith}
use Rattle.ds_keys.specs.declared.key.Key.{Key}
use Rattle.cli_scripts.specs.declared.deed.Deed.{Deed}
use Rattle.cli_scripts.specs.declared.deed.Deed.TheVariants.{Pressed}

pub same_keys : (key : Key) (times : ℕ) → map Pressed (replicate times key) ≡ replicate times (Pressed key)
same_keys key zero = refl
same_keys key (suc times) = ap (λ z. Pressed key ∷ z) (same_keys key times)

pub one_more_time : (deed : Deed) (times : ℕ) → replicate times deed ++ deed ∷ [] ≡ replicate (times + 1) deed
one_more_time deed zero = refl
one_more_time deed (suc times) =
    let same : suc (times + 1) ≡ suc times + 1 = omega arith in
    ap (λ z. deed ∷ z) (one_more_time deed times) ∙ ap (λ (n : ℕ). replicate n deed) same

pub deeds_grow : (start now new : List Deed) (deed : Deed) (times : ℕ) → now ≡ start ++ replicate times deed → new ≡ now ++ deed ∷ []
    → new ≡ start ++ replicate (times + 1) deed
deeds_grow start now new deed times was grows =
    grows ∙ ap (λ z. z ++ deed ∷ []) was ∙ append_assoc start (replicate times deed) (deed ∷ []) ∙ ap (λ z. start ++ z) (one_more_time deed times)
