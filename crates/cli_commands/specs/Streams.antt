-- What is written where a read or a write may fail.
use Rattle.std.specs.Prelude.{◌≡◌, ◌⊎◌, ℕ, List, ◌++◌, Option, Result, Ok, Err}
use Rattle.std.specs.Io.KnownBytes.{Appends}
use Rattle.std.specs.declared.io.ErrorKind.{ErrorKind}
use Rattle.std.specs.declared.io.ErrorKind.TheVariants.{OutOfMemory as MemoryKind}
use Rattle.cli_commands.specs.declared.fault.CommandError.{CommandError}
use Rattle.cli_commands.specs.declared.fault.CommandError.TheVariants.{Fault as Told, ReadFailed, OutOfMemory}
use Rattle.cli_commands.specs.declared.status.Status.{Status}
use Rattle.cli_commands.specs.declared.status.Status.TheVariants.{Done, Findings, BadInput, Failed, NoMemory}
use Rattle.cli_commands.specs.declared.output.answer.Answer.{Answer}
use Rattle.cli_commands.specs.Fault.{fault_line}
use Rattle.cli_commands.specs.Held.{answer_seen}
use Rattle.cli_commands.specs.Printed.{Printed, printed}

-- a front of the text was written
abbrev pub AppendsFront : Option (List ℕ) → Option (List ℕ) → List ℕ → Type 0
AppendsFront old new text = (front : List ℕ) × (rest : List ℕ) × (text ≡ front ++ rest) × Appends old new front

-- the status for an error of a stream
abbrev pub failure_of : ErrorKind → Status
failure_of MemoryKind = NoMemory
failure_of kind = Failed

abbrev pub IsWantOrFailure : Status → Type 0
IsWantOrFailure Done = ⊥
IsWantOrFailure Findings = ⊥
IsWantOrFailure BadInput = ⊥
IsWantOrFailure Failed = Unit {0}
IsWantOrFailure NoMemory = Unit {0}

-- The text was written, and the status is its; or something failed, and a front of the text was written.
abbrev pub Prints : Option (List ℕ) → Option (List ℕ) → Status → Printed → Type 0
Prints old new Failed due = AppendsFront old new due.text
Prints old new NoMemory due = AppendsFront old new due.text
Prints old new status due = (status ≡ due.status) × Appends old new due.text

-- the whole text was written, and the status is its; or a write failed after a front of the text
abbrev pub IsWritten : Option (List ℕ) → Option (List ℕ) → Printed → Status → Type 0
IsWritten old new due status =
    ((status ≡ due.status) × Appends old new due.text) ⊎ ((status ≡ Failed) × AppendsFront old new due.text)

-- nothing was written
abbrev pub IsStopped : Option (List ℕ) → Option (List ℕ) → Status → Status → Type 0
IsStopped old new due status = (status ≡ due) × (new ≡ old)

-- What was answered is written, or the line of the fault, for which memory may be refused; where a read failed or
-- memory was refused nothing is, and the status says which.
abbrev pub Finishes : Option (List ℕ) → Option (List ℕ) → Result Answer CommandError → Status → Type 0
Finishes old new (Ok answer) status = IsWritten old new (answer_seen answer) status
Finishes old new (Err (Told fault)) status = IsWritten old new (printed (fault_line fault) BadInput) status ⊎ IsStopped old new NoMemory status
Finishes old new (Err ReadFailed) status = IsStopped old new Failed status
Finishes old new (Err OutOfMemory) status = IsStopped old new NoMemory status
