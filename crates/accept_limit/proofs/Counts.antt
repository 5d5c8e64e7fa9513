-- How much a filter keeps of what another keeps.
use Rattle.std.proofs.Common.{◌≡◌, ◌≤◌, Bool, true, false, cond, List, [], ◌∷◌, length, filter, sym, refl, arith, true≢false}

kept : {X : Type 0} (b : Bool) (x : X) (fewer others : List X) → length fewer ≤ length others → length (cond b (x ∷ fewer) fewer) ≤ length (cond b (x ∷ others) others)
kept true x fewer others few = omega (arith, few)
kept false x fewer others few = few

more : {X : Type 0} (b : Bool) (x : X) (fewer others : List X) → length fewer ≤ length others → length fewer ≤ length (cond b (x ∷ others) others)
more true x fewer others few = omega (arith, few)
more false x fewer others few = few

step : {X : Type 0} (r : X → Bool) (p q : Bool) (x : X) (fewer others : List X) → (p ≡ true → q ≡ true) → length (filter r fewer) ≤ length (filter r others)
    → length (filter r (cond p (x ∷ fewer) fewer)) ≤ length (filter r (cond q (x ∷ others) others))
step r true true x fewer others too few = kept (r x) x (filter r fewer) (filter r others) few
step r true false x fewer others too few = absurd (true≢false (sym (too refl)))
step r false true x fewer others too few = more (r x) x (filter r fewer) (filter r others) few
step r false false x fewer others too few = few

-- a test that passes wherever another does counts as many, among those that a third one passes
pub counts_more : {X : Type 0} (r p q : X → Bool) → ((x : X) → p x ≡ true → q x ≡ true) → (xs : List X) → length (filter r (filter p xs)) ≤ length (filter r (filter q xs))
counts_more r p q too [] = omega arith
counts_more r p q too (x ∷ xs) = step r (p x) (q x) x (filter p xs) (filter q xs) (too x) (counts_more r p q too xs)

twice : {X : Type 0} (p q : Bool) (test : X → Bool) (x : X) (fewer others : List X) → test x ≡ p → (p ≡ true → q ≡ true) → filter test fewer ≡ others
    → filter test (cond q (x ∷ fewer) fewer) ≡ cond p (x ∷ others) others
twice true true test x fewer others is too same = rw (is, same) refl
twice true false test x fewer others is too same = absurd (true≢false (sym (too refl)))
twice false true test x fewer others is too same = rw (is, same) refl
twice false false test x fewer others is too same = same

-- what passes a test is there after a weaker one
pub filter_after : {X : Type 0} (p q : X → Bool) → ((x : X) → p x ≡ true → q x ≡ true) → (xs : List X) → filter p (filter q xs) ≡ filter p xs
filter_after p q too [] = refl
filter_after p q too (x ∷ xs) = twice (p x) (q x) p x (filter q xs) (filter p xs) refl (too x) (filter_after p q too xs)
