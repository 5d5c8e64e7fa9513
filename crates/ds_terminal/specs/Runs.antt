-- Records one after the other, on a terminal that only shows.
use Rattle.std.specs.Prelude.{ℕ, ◌+◌, List, [], ◌∷◌, Result, Ok, Err}
use Rattle.ds_codec.specs.declared.refused.Refused as codec
use Rattle.ds_codec.specs.Record.{Message}
use Rattle.ds_codec.specs.Reading.{read_of}
use Rattle.ds_screen.specs.Picture.{Picture}
use Rattle.ds_screen.specs.Records.{shown_of}
use Rattle.ds_terminal.specs.declared.refused.Refused.{Refused}
use Rattle.ds_terminal.specs.declared.refused.Refused.TheVariants.{Read}
use Rattle.ds_terminal.specs.Taking.{applying}

-- the picture that a record leaves on a terminal that only shows, or why it is refused
abbrev pub shown_as : Picture → Result Message codec.Refused → Result Picture Refused
shown_as v (Ok message) = applying (shown_of v message.command message.orders)
shown_as v (Err why) = Err (Read why)

abbrev pub shown_after : Picture → List ℕ → Result Picture Refused
shown_after v bytes = shown_as v (read_of v.geometry.mode bytes)

-- a record that is refused, by its number
pub record RefusedRecord : Type 0 where
  pub index : ℕ
  pub why : Refused

-- the others, where the record of this number is shown
abbrev pub then_others : {A : Type 0} → ℕ → Result Picture Refused → (Picture → Result A RefusedRecord) → Result A RefusedRecord
then_others index (Ok next) others = others next
then_others index (Err why) others = Err (record { index = index; why = why })

-- the records in turn from this number on: the picture after all of them, or the first that is refused
abbrev pub all_shown : ℕ → Picture → List (List ℕ) → Result Picture RefusedRecord
all_shown index v [] = Ok v
all_shown index v (bytes ∷ others) = then_others index (shown_after v bytes) (λ next. all_shown (index + 1) next others)
