-- Words found in tables one after the other.
use Rattle.std.proofs.Common.{◌≡◌, ℕ, Bool, true, false, cond, List, [], ◌∷◌, ◌++◌, Option, Some, None, refl, sym, ◌∙◌, ap}
use Rattle.std.specs.Option.{option_or}
use Rattle.std.specs.Str.{bytes_eq}
use Rattle.ds_keys.specs.declared.key.Key.{Key}
use Rattle.ds_keys.specs.Lines.{Word, attention_words, first_functions, middle_functions, last_functions, sending_words, key_in}

or_cond : (t : Bool) (x y z : Option Key) → option_or (cond t x y) z ≡ cond t (option_or x z) (option_or y z)
or_cond true x y z = refl
or_cond false x y z = refl

key_in-append : (text : List ℕ) (a b : List Word) → option_or (key_in text a) (key_in text b) ≡ key_in text (a ++ b)
key_in-append text [] b = refl
key_in-append text (w ∷ a) b =
    or_cond (bytes_eq text w.text) (Some w.key) (key_in text a) (key_in text b)
    ∙ ap (cond (bytes_eq text w.text) (Some w.key)) (key_in-append text a b)

pub in_sending : (text : List ℕ) (c d e f o1 o2 o3 : Option Key) → c ≡ key_in text attention_words
    → d ≡ key_in text first_functions → e ≡ key_in text middle_functions → f ≡ key_in text last_functions
    → o1 ≡ option_or e f → o2 ≡ option_or d o1 → o3 ≡ option_or c o2 → o3 ≡ key_in text sending_words
in_sending text c d e f o1 o2 o3 pc pd pe pf q1 q2 q3 =
    let s1 : o1 ≡ key_in text (middle_functions ++ last_functions) =
    q1 ∙ ap (λ x. option_or x f) pe ∙ ap (option_or (key_in text middle_functions)) pf ∙ key_in-append text middle_functions last_functions in
    let s2 : o2 ≡ key_in text (first_functions ++ (middle_functions ++ last_functions)) =
    q2 ∙ ap (λ x. option_or x o1) pd ∙ ap (option_or (key_in text first_functions)) s1 ∙ key_in-append text first_functions (middle_functions ++ last_functions) in
    q3 ∙ ap (λ x. option_or x o2) pc ∙ ap (option_or (key_in text attention_words)) s2 ∙ key_in-append text attention_words (first_functions ++ (middle_functions ++ last_functions))

-- a word of the first table, and one that is not
pub found_first : (text : List ℕ) (a b : List Word) (key : Key) → key_in text a ≡ Some key → Some key ≡ key_in text (a ++ b)
found_first text a b key found = sym (ap (λ o. option_or o (key_in text b)) found) ∙ key_in-append text a b

pub found_later : (text : List ℕ) (a b : List Word) (o : Option Key) → key_in text a ≡ None → o ≡ key_in text b → o ≡ key_in text (a ++ b)
found_later text a b o none found = found ∙ sym (ap (λ x. option_or x (key_in text b)) none) ∙ key_in-append text a b
