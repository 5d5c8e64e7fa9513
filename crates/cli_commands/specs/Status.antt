-- The numbers that the program answers.
use Rattle.std.specs.Prelude.{ℕ}
use Rattle.cli_commands.specs.declared.status.Status.{Status}
use Rattle.cli_commands.specs.declared.status.Status.TheVariants.{Done, Findings, BadInput, Failed, NoMemory}

abbrev pub code_of : Status → ℕ
code_of Done = 0
code_of Findings = 1
code_of BadInput = 2
code_of Failed = 3
code_of NoMemory = 4
