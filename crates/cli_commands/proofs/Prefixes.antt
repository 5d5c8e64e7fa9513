-- Texts written in several writes.
use Rattle.std.proofs.Common.{◌≡◌, ℕ, List, [], ◌++◌, take, drop, sym, ap, ◌∙◌, append_assoc, take-append-drop}
use Rattle.std.specs.Prelude.{Option, Some, None, IfSome, option_map}
use Rattle.std.specs.Io.KnownBytes.{Appends}

pub appends_more : (old mid new : Option (List ℕ)) (first second : List ℕ) → Appends old mid first → Appends mid new second → Appends old new (first ++ second)
appends_more None mid new first second a b = tt
appends_more (Some x) None new first second a b = absurd a
appends_more (Some x) (Some y) None first second a b = absurd b
appends_more (Some x) (Some y) (Some z) first second a b = b ∙ ap (λ l. l ++ second) a ∙ append_assoc x first second

pub rest_more : (text front rest : List ℕ) (n : ℕ) → text ≡ front ++ rest → text ≡ (front ++ take n rest) ++ drop n rest
rest_more text front rest n e = e ∙ ap (λ r. front ++ r) (sym (take-append-drop n rest)) ∙ sym (append_assoc front (take n rest) (drop n rest))

-- what a reader gives up to a limit
pub up_to : (known : Option (List ℕ)) (n : ℕ) (bytes : List ℕ) → IfSome (option_map (take n) known) (λ xs. bytes ≡ [] ++ xs) → IfSome known (λ input. bytes ≡ take n input)
up_to None n bytes h = tt
up_to (Some input) n bytes h = h
