-- What `records` tells of a text, and its status.
use Rattle.std.specs.Prelude.{ℕ, List}
use Rattle.cli_commands.specs.declared.status.Status.{Status}
use Rattle.cli_commands.specs.declared.status.Status.TheVariants.{Done, BadInput}
use Rattle.cli_commands.specs.Lines.{lines_in}
use Rattle.cli_traces.specs.declared.asked.Asked.{Asked}
use Rattle.cli_traces.specs.Following.{IsAll, EndsEarly}

-- all lines were taken, and this is their text; or one is refused or has a fault, and this is the text up to it
abbrev pub TellsRecords : Asked → List ℕ → List ℕ → Status → Type 0
TellsRecords asked input text Done = IsAll asked (lines_in input) text
TellsRecords asked input text BadInput = EndsEarly asked (lines_in input) text
TellsRecords asked input text status = ⊥
