-- Texts that are equal one by one.
use Rattle.std.proofs.Common.{◌≡◌, ◌∙◌, true, String, Global, List, [], ◌∷◌, map, string_bytes, refl, ap}
use Rattle.std.specs.String.{string_eq}
use Rattle.std.specs.Cmp.Lexicographic.{pointwise}
use Rattle.std.proofs.lemmas.Bool.{and_parts}
use Rattle.std.proofs.lemmas.Slice.Eq.{bytes_eq-Decides}

pub same_texts : (xs ys : List (String Global)) → pointwise string_eq xs ys ≡ true → map string_bytes xs ≡ map string_bytes ys
same_texts [] [] same = refl
same_texts [] (y ∷ ys) same = absurd cc
same_texts (x ∷ xs) [] same = absurd cc
same_texts (x ∷ xs) (y ∷ ys) same =
    let parts = and_parts (string_eq x y) (pointwise string_eq xs ys) same in
    ap (λ b. b ∷ map string_bytes xs) ((bytes_eq-Decides (string_bytes x) (string_bytes y)).0 parts.0) ∙ ap (λ bs. string_bytes y ∷ bs) (same_texts xs ys parts.1)
