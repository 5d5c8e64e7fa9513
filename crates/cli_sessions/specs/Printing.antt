-- What a writer took, and whether a text could be written to it.
use Rattle.std.specs.Prelude.{ℕ, ◌≡◌, ◌+◌, Bool, true, false, List, Option}
use Rattle.std.specs.Io.KnownBytes.{Appends}
use Rattle.cli_commands.specs.Streams.{AppendsFront}

-- what was written, where it is known; how many texts could not be; and whether bytes may wait that the writer was not asked to pass on
pub record Printing : Type 0 where
  pub written : Option (List ℕ)
  pub failures : ℕ
  pub waits : Bool

abbrev pub printing : Option (List ℕ) → ℕ → Bool → Printing
printing written failures waits = record { written = written; failures = failures; waits = waits }

-- the text was written; or a write failed after a front of it
abbrev pub IsPrinted : Printing → Printing → List ℕ → Bool → Type 0
IsPrinted old new text true = Appends old.written new.written text × (new.failures ≡ old.failures)
IsPrinted old new text false = AppendsFront old.written new.written text × (new.failures ≡ old.failures + 1)
