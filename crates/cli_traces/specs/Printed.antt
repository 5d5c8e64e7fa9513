-- What is written of an input, and the status; also where a read or a write fails, or memory is refused.
use Rattle.std.specs.Prelude.{◌≡◌, ◌⊎◌, ◌≤◌, ℕ, List, length, Option, Result, Ok, Err}
use Rattle.std.specs.Io.KnownBytes.{Appends}
use Rattle.cli_commands.specs.declared.fault.CommandError.{CommandError}
use Rattle.cli_commands.specs.declared.fault.CommandError.TheVariants.{Fault as Told, ReadFailed, OutOfMemory}
use Rattle.cli_commands.specs.declared.status.Status.{Status}
use Rattle.cli_commands.specs.declared.status.Status.TheVariants.{Done, Findings, BadInput, Failed, NoMemory}
use Rattle.cli_commands.specs.Causes.{HasFailed, EndsBy}
use Rattle.cli_commands.specs.Streams.{AppendsFront}
use Rattle.cli_traces.specs.declared.asked.Asked.{Asked}
use Rattle.cli_traces.specs.declared.line.Next.{Next}
use Rattle.cli_commands.specs.Lines.{lines_in}
use Rattle.cli_traces.specs.Following.{Following, Course, Adds, IsSoFar, IsAll, EndsEarly}
use Rattle.cli_traces.specs.Held.{course_seen}

-- a front of the text of some lines, or of all that count
abbrev pub IsPart : Asked → List (List ℕ) → Option (List ℕ) → Option (List ℕ) → Type 0
IsPart asked lines old new = (text : List ℕ) × (IsSoFar asked lines text ⊎ (EndsEarly asked lines text ⊎ IsAll asked lines text)) × AppendsFront old new text

-- The text of all lines was written; or that up to a line which is refused or has a fault; or, where a read or a write
-- failed or memory was refused, a front of it.
abbrev pub PrintsLines : Asked → List (List ℕ) → Option (List ℕ) → Option (List ℕ) → Status → Type 0
PrintsLines asked lines old new Done = (text : List ℕ) × IsAll asked lines text × Appends old new text
PrintsLines asked lines old new BadInput = (text : List ℕ) × EndsEarly asked lines text × Appends old new text
PrintsLines asked lines old new Failed = IsPart asked lines old new
PrintsLines asked lines old new NoMemory = IsPart asked lines old new
PrintsLines asked lines old new Findings = ⊥

-- what `records` writes of an input, and its status
abbrev pub PrintsRecords : Asked → List ℕ → Option (List ℕ) → Option (List ℕ) → Status → Type 0
PrintsRecords asked input old new status = PrintsLines asked (lines_in input) old new status

-- The status is that of the lines, and no read and no write failed; or it is `Failed`, and one did, or the input has at least
-- 2^64 - 2 lines; or memory was refused.
abbrev pub TracesBy : ℕ → ℕ → List ℕ → Status → Type 0
TracesBy old new input Failed = HasFailed old new ⊎ (18446744073709551614 ≤ length (lines_in input))
TracesBy old new input NoMemory = Unit {0}
TracesBy old new input status = new ≡ old

-- the status where a line can't be read
abbrev pub status_of : CommandError → Status
status_of (Told fault) = BadInput
status_of ReadFailed = Failed
status_of OutOfMemory = NoMemory

-- ---- one line, as the program takes it

-- no write failed; or one did; or memory was refused
abbrev pub AddsBy : ℕ → ℕ → Result Next Status → Type 0
AddsBy old new (Ok next) = new ≡ old
AddsBy old new (Err status) = EndsBy old new Done status

-- the text of a line was written, or a front of it
abbrev pub PrintsLine : Asked → ℕ → Following → List ℕ → Option (List ℕ) → Result Next Status → Following → Option (List ℕ) → Type 0
PrintsLine asked number old line before (Ok next) new after =
    (text : List ℕ) × Adds asked number old line text (course_seen next new) × Appends before after text
PrintsLine asked number old line before (Err Failed) new after =
    (text : List ℕ) × (course : Course) × Adds asked number old line text course × AppendsFront before after text
PrintsLine asked number old line before (Err NoMemory) new after = after ≡ before
PrintsLine asked number old line before (Err Done) new after = ⊥
PrintsLine asked number old line before (Err Findings) new after = ⊥
PrintsLine asked number old line before (Err BadInput) new after = ⊥

-- a text was written, or a front of it
abbrev pub Writes : List ℕ → Option (List ℕ) → Next → Result Next Status → Option (List ℕ) → Type 0
Writes text before next (Ok given) after = (given ≡ next) × Appends before after text
Writes text before next (Err Failed) after = AppendsFront before after text
Writes text before next (Err NoMemory) after = ⊥
Writes text before next (Err Done) after = ⊥
Writes text before next (Err Findings) after = ⊥
Writes text before next (Err BadInput) after = ⊥

-- the text at the end was written, or a front of it
abbrev pub WritesEnd : List ℕ → Option (List ℕ) → Status → Option (List ℕ) → Type 0
WritesEnd text before Done after = Appends before after text
WritesEnd text before Failed after = AppendsFront before after text
WritesEnd text before NoMemory after = after ≡ before
WritesEnd text before Findings after = ⊥
WritesEnd text before BadInput after = ⊥
