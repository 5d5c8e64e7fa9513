-- Lines of records in hexadecimal, with a line `turn` between the turns of a dialogue.
use Rattle.std.specs.Prelude.{ℕ, ◌+◌, List, [], ◌∷◌, ◌++◌, length, Result, Ok, Err, if◌then◌else◌}
use Rattle.ds_codec.specs.Reading.{◌>>=◌}
use Rattle.cli_commands.specs.declared.fault.Fault.{Fault}
use Rattle.cli_commands.specs.declared.fault.Fault.TheVariants.{BadLine}
use Rattle.cli_commands.specs.declared.input.sizes.SizeLine.TheVariants.{Refused}
use Rattle.cli_commands.specs.Lines.{at_most}
use Rattle.cli_commands.specs.TurnLines.{is_turn}
use Rattle.cli_commands.specs.Records.{Line, ignored, sizes, outbound, bad, line_told}
use Rattle.cli_commands.specs.Taking.{taken_in}

-- the records of the turns that ended, those of the turn at hand, and how many there are in all
pub record Turns : Type 0 where
  pub ended : List (List (List ℕ))
  pub current : List (List ℕ)
  pub count : ℕ

abbrev pub no_turns : Turns
no_turns = record { ended = []; current = []; count = 0 }

-- at most 1,000 records of 32,768 bytes, of all turns together
abbrev pub one_more : Turns → List ℕ → Result Turns Fault
one_more told bytes =
    at_most (length bytes) 32768 >>= λ short.
    at_most (told.count + 1) 1000 >>= λ few.
    Ok (record told { current = told.current ++ bytes ∷ []; count = told.count + 1 })

-- what the line of this number adds; a line of sizes is bad
abbrev pub after_record : ℕ → Turns → Line → Result Turns Fault
after_record number told ignored = Ok told
after_record number told (sizes geometry) = Err (BadLine number)
after_record number told (outbound bytes) = one_more told bytes
after_record number told bad = Err (BadLine number)

-- the turn at hand ends, and the next one begins
abbrev pub next_turn : Turns → Turns
next_turn told = record told { ended = told.ended ++ told.current ∷ []; current = [] }

abbrev pub take_turn_line : ℕ → Turns → List ℕ → Result Turns Fault
take_turn_line number told line =
    if is_turn line then Ok (next_turn told) else after_record number told (line_told Refused line)

-- each turn's records, in order
abbrev pub turns_told : Turns → List (List (List ℕ))
turns_told told = told.ended ++ told.current ∷ []

-- what the lines of an input tell, or its first fault
abbrev pub turns_taken : List ℕ → Result Turns Fault
turns_taken input = taken_in take_turn_line no_turns input

-- the turns of an input, one more than it has lines `turn`
abbrev pub turns_in : List ℕ → Result (List (List (List ℕ))) Fault
turns_in input = turns_taken input >>= λ told. Ok (turns_told told)
