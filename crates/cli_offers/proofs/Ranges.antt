-- One more index of a loop that adds what is due at each.
use Rattle.std.proofs.Common.{◌≡◌, ◌∙◌, ℕ, ◌+◌, List, [], ◌∷◌, ◌++◌, ap, sym, map-id, arith, Bool, true, false}
use Rattle.std.specs.Prelude.{if◌then◌else◌}
use Rattle.std.specs.List.{flat_map, range_with_len}
use Rattle.std.proofs.lemmas.List.{append-nil, flat_map_more}
use Rattle.std.proofs.lemmas.List.FromFn.{map-range_with_len_more}

range_more : (i : ℕ) → range_with_len 0 (i + 1) ≡ range_with_len 0 i ++ i ∷ []
range_more i = sym (map-id (range_with_len 0 (i + 1))) ∙ map-range_with_len_more (λ (k : ℕ). k) 0 i i (omega arith) ∙ ap (λ l. l ++ i ∷ []) (map-id (range_with_len 0 i))

flat_map_next : {A : Type 0} (f : ℕ → List A) (bs : List A) (i : ℕ) → (bs ++ flat_map f (range_with_len 0 i)) ++ f i ≡ bs ++ flat_map f (range_with_len 0 (i + 1))
flat_map_next f bs i = flat_map_more f bs (range_with_len 0 i) i ∙ ap (λ l. bs ++ flat_map f l) (sym (range_more i))

-- what is due at the index was added
pub added : {A : Type 0} (f : ℕ → List A) (bs now next more : List A) (i : ℕ)
    → now ≡ bs ++ flat_map f (range_with_len 0 i) → next ≡ now ++ more → f i ≡ more → next ≡ bs ++ flat_map f (range_with_len 0 (i + 1))
added f bs now next more i before new due =
    new ∙ ap (λ l. now ++ l) (sym due) ∙ ap (λ l. l ++ f i) before ∙ flat_map_next f bs i

-- nothing is due at the index
pub unchanged : {A : Type 0} (f : ℕ → List A) (bs now : List A) (i : ℕ)
    → now ≡ bs ++ flat_map f (range_with_len 0 i) → f i ≡ [] → now ≡ bs ++ flat_map f (range_with_len 0 (i + 1))
unchanged f bs now i before none = added f bs now now [] i before (sym (append-nil now)) none

pub chosen : {A : Type 0} (b : Bool) (more : List A) → b ≡ true → (if b then more else []) ≡ more
chosen b more is = ap (λ d. if d then more else []) is

pub left_out : {A : Type 0} (b : Bool) (more : List A) → b ≡ false → (if b then more else []) ≡ []
left_out b more is = ap (λ d. if d then more else []) is
