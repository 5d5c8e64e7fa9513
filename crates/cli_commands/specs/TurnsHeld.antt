-- Turns and layouts as the program holds them.
use Rattle.std.specs.Prelude.{ℕ, List, [], ◌∷◌, map, Option, Some, None}
use Rattle.std.specs.Global.{Vec}
use Rattle.std.specs.Borrow.{Bor}
use Rattle.cli_commands.specs.declared.input.turns.Turns as held_turns
use Rattle.cli_commands.specs.Held.{records_held}
use Rattle.cli_commands.specs.Turns as turns

abbrev pub turns_held : List (Vec (Vec ℕ)) → List (List (List ℕ))
turns_held turns = map (λ records. records_held records.items) turns

abbrev pub records_of : Vec (Vec (Vec ℕ)) → List (List (List ℕ))
records_of turns = turns_held turns.items

abbrev pub turns_seen : held_turns.Turns → turns.Turns
turns_seen told = record { ended = turns_held told.ended.items; current = records_held told.current.items; count = told.count }

-- the same of slices
abbrev pub lent_held : List (Vec (Bor (List ℕ))) → List (List (List ℕ))
lent_held turns = map (λ records. map (λ bytes. bytes.now) records.items) turns

-- the texts that are left in readers, where each tells its own
abbrev pub both_known : {A : Type 0} → Option A → Option (List A) → Option (List A)
both_known None others = None
both_known (Some text) None = None
both_known (Some text) (Some texts) = Some (text ∷ texts)

abbrev pub all_remaining : {L : Type 0} → (L → Option (List ℕ)) → List L → Option (List (List ℕ))
all_remaining remaining [] = Some []
all_remaining remaining (reader ∷ readers) = both_known (remaining reader) (all_remaining remaining readers)
