-- A text that is written to an output.
use Rattle.std.specs.Prelude.{ℕ, Bool, true, false, List}
use Rattle.cli_commands.specs.Causes.{HasFailed}
use Rattle.cli_commands.specs.Streams.{AppendsFront}
use Rattle.cli_sessions.specs.Printing.{Printing, IsPrinted}

-- it was written; or a write failed, which is counted, after a front of it
abbrev pub Writes : Printing → Printing → List ℕ → Bool → Type 0
Writes old new text true = IsPrinted old new text true
Writes old new text false = AppendsFront old.written new.written text × HasFailed old.failures new.failures
