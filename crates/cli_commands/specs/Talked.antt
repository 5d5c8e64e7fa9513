-- A dialogue, its layouts, and the turn at which it stops: what `talk` prints, and reports tell otherwise.
use Rattle.std.specs.Prelude.{ℕ, List, [], length, Option, Result, Ok}
use Rattle.ds_codec.specs.Reading.{◌>>=◌}
use Rattle.scr_layout.specs.Layout.{Declaration}
use Rattle.scr_check.specs.Walk.{Stop, walk_of}
use Rattle.cli_commands.specs.declared.fault.Fault.{Fault}
use Rattle.cli_commands.specs.Talk.{layouts_from, unless_other, first_other, counted, rounds}
use Rattle.cli_commands.specs.Turns.{turns_in}

-- the layouts, the records of each turn, and the first turn with findings
pub record Judged : Type 0 where
  pub layouts : List Declaration
  pub turns : List (List (List ℕ))
  pub stop : Option Stop

abbrev pub judged_turns : List Declaration → List (List (List ℕ)) → Judged
judged_turns layouts turns = record { layouts = layouts; turns = turns; stop = walk_of (rounds turns layouts) }

-- that the numbers differ, or these
abbrev pub talked_told : List Declaration → List (List (List ℕ)) → Result Judged Fault
talked_told layouts turns = counted (length turns) (length layouts) >>= λ as_many. Ok (judged_turns layouts turns)

abbrev pub talked_turns : List Declaration → List ℕ → Result Judged Fault
talked_turns layouts input = turns_in input >>= talked_told layouts

-- the faults are those of `talk`, in its order
abbrev pub judged_talk : List (List ℕ) → List ℕ → Result Judged Fault
judged_talk texts input = do
  layouts ← layouts_from 0 [] texts
  same ← unless_other (first_other layouts)
  talked_turns layouts input
