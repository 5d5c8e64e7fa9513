-- Lists and what a test says of them.
use Rattle.std.proofs.Common.{◌≡◌, suc, Bool, true, false, List, [], ◌∷◌, map, length, refl, ap, ◌∙◌}
use Rattle.std.specs.Prelude.{◌&&◌, ◌||◌}
use Rattle.std.specs.List.{list_any}
use Rattle.tn_session.specs.Kept.{Kept}
use Rattle.script_checks.specs.Report.{are_same, is_same}

pub any_mapped : {A B : Type 0} (test : B → Bool) (f : A → B) (xs : List A) → list_any test (map f xs) ≡ list_any (λ x. test (f x)) xs
any_mapped test f [] = refl
any_mapped test f (x ∷ xs) = ap (λ t. test (f x) || t) (any_mapped test f xs)

and_false : (test : Bool) → (test && false) ≡ false
and_false true = refl
and_false false = refl

pub differ : (kept others : List Kept) → (length kept ≡ length others → ⊥) → are_same kept others ≡ false
differ [] [] other = absurd (other refl)
differ [] (o ∷ os) other = refl
differ (k ∷ ks) [] other = refl
differ (k ∷ ks) (o ∷ os) other = ap (λ t. is_same k o && t) (differ ks os (λ is. other (ap (λ n. suc n) is))) ∙ and_false (is_same k o)
