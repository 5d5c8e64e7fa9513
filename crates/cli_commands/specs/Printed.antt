-- What a command prints, and its status.
use Rattle.std.specs.Prelude.{ℕ, List, ◌++◌, Result, Ok, Err}
use Rattle.ds_codec.specs.Reading.{◌>>=◌}
use Rattle.cli_commands.specs.declared.fault.Fault.{Fault}
use Rattle.cli_commands.specs.declared.status.Status.{Status}
use Rattle.cli_commands.specs.declared.status.Status.TheVariants.{BadInput}
use Rattle.cli_commands.specs.Fault.{fault_line}

-- a text, and the status with which the program ends
pub record Printed : Type 0 where
  pub text : List ℕ
  pub status : Status

abbrev pub printed : List ℕ → Status → Printed
printed text status = record { text = text; status = status }

-- what a command answers, or the line of the first fault alone
abbrev pub printed_or_fault : Result Printed Fault → Printed
printed_or_fault (Ok answer) = answer
printed_or_fault (Err fault) = printed (fault_line fault) BadInput

-- two texts one after the other, or the first fault
abbrev pub joined : Result (List ℕ) Fault → Result (List ℕ) Fault → Result (List ℕ) Fault
joined first others = first >>= λ text. others >>= λ more. Ok (text ++ more)
