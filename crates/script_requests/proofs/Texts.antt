-- Texts added one after the other.
use Rattle.std.proofs.Common.{◌≡◌, ℕ, List, ◌++◌, ◌∙◌, ap, append_assoc}

pub two : (old a b x y : List ℕ) → x ≡ old ++ a → y ≡ x ++ b → y ≡ old ++ (a ++ b)
two old a b x y p q =
    let regroup : (old ++ a) ++ b ≡ old ++ (a ++ b) = simp append_assoc in
    q ∙ ap (λ l. l ++ b) p ∙ regroup

pub three : (old a b c x y z : List ℕ) → x ≡ old ++ a → y ≡ x ++ b → z ≡ y ++ c → z ≡ old ++ (a ++ (b ++ c))
three old a b c x y z p q r =
    let regroup : old ++ ((a ++ b) ++ c) ≡ old ++ (a ++ (b ++ c)) = simp append_assoc in
    two old (a ++ b) c y z (two old a b x y p q) r ∙ regroup

pub four : (old a b c d w x y z : List ℕ) → w ≡ old ++ a → x ≡ w ++ b → y ≡ x ++ c → z ≡ y ++ d → z ≡ old ++ (a ++ (b ++ (c ++ d)))
four old a b c d w x y z o p q r =
    let regroup : old ++ ((a ++ (b ++ c)) ++ d) ≡ old ++ (a ++ (b ++ (c ++ d))) = simp append_assoc in
    two old (a ++ (b ++ c)) d y z (three old a b c w x y o p q) r ∙ regroup
