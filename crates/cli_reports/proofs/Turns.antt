-- The first turns of a dialogue.
use Rattle.std.proofs.Common.{◌≡◌, ℕ, zero, suc, ◌≤◌, List, [], ◌∷◌, length, take, map, refl, sym, ap, ◌∙◌, arith}
use Rattle.std.proofs.lemmas.List.{length-map, take-map}
use Rattle.std.specs.Global.{Vec}
use Rattle.cli_commands.specs.Held.{records_held}
use Rattle.cli_commands.specs.TurnsHeld.{turns_held}

-- no more are left out where there are no more
all_taken : {A : Type 0} (items : List A) (count : ℕ) → length items ≤ count → take count items ≡ items
all_taken [] zero le = refl
all_taken [] (suc count) le = refl
all_taken (item ∷ items) zero le = absurd (omega (arith, le))
all_taken (item ∷ items) (suc count) le = ap (λ rest. item ∷ rest) (all_taken items count (omega (arith, le)))

pub some_held : (turns : List (Vec (Vec ℕ))) (count : ℕ) → turns_held (take count turns) ≡ take count (turns_held turns)
some_held turns count = sym (take-map (λ (records : Vec (Vec ℕ)). records_held records.items) count turns)

pub all_held : (turns : List (Vec (Vec ℕ))) (count : ℕ) → length turns ≤ count → turns_held turns ≡ take count (turns_held turns)
all_held turns count le = sym (ap turns_held (all_taken turns count le)) ∙ some_held turns count

pub turns_count : (turns : List (Vec (Vec ℕ))) → length (turns_held turns) ≡ length turns
turns_count turns = length-map turns (λ (records : Vec (Vec ℕ)). records_held records.items)

pub records_count : (records : List (Vec ℕ)) → length (records_held records) ≡ length records
records_count records = length-map records (λ (bytes : Vec ℕ). bytes.items)
