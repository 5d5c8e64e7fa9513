-- Texts that are pushed one after the other.
use Rattle.std.proofs.Common.{◌≡◌, ℕ, zero, suc, arith, ◌+◌, List, [], ◌∷◌, ◌++◌, map, refl, sym, ap, ◌∙◌, append_assoc}
use Rattle.std.specs.List.{flat_map, range_with_len}
use Rattle.std.proofs.lemmas.List.Concat.{flat_map-cons}
use Rattle.std.proofs.lemmas.List.Folds.{flat_map-map}
use Rattle.std.proofs.lemmas.Grind.{flat_map-append}
use Rattle.std.proofs.lemmas.List.{append-nil}

range_push : (a n : ℕ) → range_with_len a (n + 1) ≡ range_with_len a n ++ (a + n) ∷ []
range_push a zero = let e : a + 0 ≡ a = omega arith in rw e refl
range_push a (suc n) =
    let e : suc n + 1 ≡ suc (n + 1) = omega arith in
    let f : (a + 1) + n ≡ a + suc n = omega arith in
    rw e (ap (λ rest. a ∷ rest) (range_push (a + 1) n ∙ rw f refl))

pub one_more : (f : ℕ → List ℕ) (row : ℕ) (first before after : List ℕ) → before ≡ first ++ flat_map f (range_with_len 0 row) → after ≡ before ++ f row
    → after ≡ first ++ flat_map f (range_with_len 0 (row + 1))
one_more f row first before after so_far here =
    let one : flat_map f (row ∷ []) ≡ f row = flat_map-cons f row [] ∙ append-nil (f row) in
    here ∙ ap (λ b. b ++ f row) so_far ∙ append_assoc first (flat_map f (range_with_len 0 row)) (f row)
    ∙ ap (λ b. first ++ (flat_map f (range_with_len 0 row) ++ b)) (sym one)
    ∙ ap (λ b. first ++ b) (sym (flat_map-append f (range_with_len 0 row) (row ∷ [])))
    ∙ ap (λ rows. first ++ flat_map f rows) (let e : 0 + row ≡ row = omega arith in sym (range_push 0 row ∙ rw e refl))

pub one_more_line : (f : List ℕ → List ℕ) (g : ℕ → List ℕ) (line : ℕ) (first before after : List ℕ) → before ≡ first ++ flat_map f (map g (range_with_len 0 line)) → after ≡ before ++ f (g line)
    → after ≡ first ++ flat_map f (map g (range_with_len 0 (line + 1)))
one_more_line f g line first before after so_far here =
    one_more (λ k. f (g k)) line first before after (so_far ∙ ap (λ b. first ++ b) (flat_map-map f g (range_with_len 0 line))) here
    ∙ ap (λ b. first ++ b) (sym (flat_map-map f g (range_with_len 0 (line + 1))))

joined : (s a b c d : List ℕ) → s ++ a ++ b ++ c ++ d ≡ s ++ (a ++ (b ++ (c ++ d)))
joined s a b c d = append_assoc (s ++ a ++ b) c d ∙ append_assoc (s ++ a) b (c ++ d) ∙ append_assoc s a (b ++ (c ++ d))

all_of : (f : List ℕ → List ℕ) (a b c d : List ℕ) → flat_map f (a ∷ b ∷ c ∷ d ∷ []) ≡ f a ++ (f b ++ (f c ++ f d))
all_of f a b c d =
    flat_map-cons f a (b ∷ c ∷ d ∷ []) ∙ ap (λ x. f a ++ x) (flat_map-cons f b (c ∷ d ∷ [])
    ∙ ap (λ x. f b ++ x) (flat_map-cons f c (d ∷ []) ∙ ap (λ x. f c ++ x) (flat_map-cons f d [] ∙ append-nil (f d))))

pub four_lines : (f : List ℕ → List ℕ) (a b c d start first second third fourth : List ℕ)
    → first ≡ start ++ f a → second ≡ first ++ f b → third ≡ second ++ f c → fourth ≡ third ++ f d
    → fourth ≡ start ++ flat_map f (a ∷ b ∷ c ∷ d ∷ [])
four_lines f a b c d start first second third fourth one two three four =
    four ∙ ap (λ x. x ++ f d) three ∙ ap (λ x. x ++ f c ++ f d) two ∙ ap (λ x. x ++ f b ++ f c ++ f d) one
    ∙ joined start (f a) (f b) (f c) (f d) ∙ ap (λ x. start ++ x) (sym (all_of f a b c d))

-- one more line after others
pub line_after : (f : List ℕ → List ℕ) (others : List (List ℕ)) (line start before after : List ℕ) → before ≡ start ++ flat_map f others → after ≡ before ++ f line
    → after ≡ start ++ flat_map f (others ++ line ∷ [])
line_after f others line start before after so_far here =
    here ∙ ap (λ x. x ++ f line) so_far ∙ append_assoc start (flat_map f others) (f line)
    ∙ ap (λ x. start ++ x) (ap (λ x. flat_map f others ++ x) (sym (flat_map-cons f line [] ∙ append-nil (f line))) ∙ sym (flat_map-append f others (line ∷ [])))
