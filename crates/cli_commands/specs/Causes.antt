-- Why a command gives up: a call of a stream that failed. A stream counts those.
use Rattle.std.specs.Prelude.{◌≡◌, ◌⊎◌, ◌<◌, ◌≤◌, ◌+◌, ◌-◌, ◌^◌, min, ℕ, List, [], ◌∷◌, length, take, Bool, true, false, Option, Some, None, Result, Ok, Err}
use Rattle.std.specs.Io.KnownBytes.{Appends, Keeps}
use Rattle.cli_commands.specs.declared.fault.CommandError.{CommandError}
use Rattle.cli_commands.specs.declared.fault.CommandError.TheVariants.{Fault as Told, ReadFailed, OutOfMemory}
use Rattle.cli_commands.specs.declared.status.Status.{Status}
use Rattle.cli_commands.specs.declared.status.Status.TheVariants.{BadInput, Failed, NoMemory}
use Rattle.cli_commands.specs.declared.output.answer.Answer.{Answer}

-- ---- one call of a stream

-- a write took so many bytes, and some; or none, and what is held stays
abbrev pub Puts : Option (List ℕ) → Option (List ℕ) → List ℕ → Option ℕ → Type 0
Puts old new bytes (Some count) = (0 < count) × (count ≤ length bytes) × Appends old new (take count bytes)
Puts old new bytes None = Keeps old new

-- a call failed between two counts, which stop at 2^64 - 1
abbrev pub HasFailed : ℕ → ℕ → Type 0
HasFailed old new = min (old + 1) (2 ^ 64 - 1) ≤ new

-- a call that did nothing has failed and is counted; another leaves the count
abbrev pub Counts : {A : Type 0} → ℕ → ℕ → Option A → Type 0
Counts old new (Some done) = new ≡ old
Counts old new None = HasFailed old new

-- how many calls failed of several streams
abbrev pub all_failures : {S : Type 0} → (S → ℕ) → List S → ℕ
all_failures failures [] = 0
all_failures failures (stream ∷ streams) = failures stream + all_failures failures streams

-- ---- what is read

-- a read that failed was counted; where a fault is told none failed; memory may be refused
abbrev pub FailsBy : ℕ → ℕ → CommandError → Type 0
FailsBy old new (Told fault) = new ≡ old
FailsBy old new ReadFailed = HasFailed old new
FailsBy old new OutOfMemory = Unit {0}

-- the same of a result; where there is one no read failed
abbrev pub ToldBy : {A : Type 0} → ℕ → ℕ → Result A CommandError → Type 0
ToldBy old new (Ok found) = new ≡ old
ToldBy old new (Err error) = FailsBy old new error

-- no read failed
abbrev pub ReadsNothing : CommandError → Type 0
ReadsNothing (Told fault) = Unit {0}
ReadsNothing ReadFailed = ⊥
ReadsNothing OutOfMemory = Unit {0}

-- ---- what is written

-- a text was written and no write failed, or one did
abbrev pub SendsBy : ℕ → ℕ → Bool → Type 0
SendsBy old new true = new ≡ old
SendsBy old new false = HasFailed old new

-- the status is the text's and no write failed, or it is that of a write that failed
abbrev pub WritesBy : ℕ → ℕ → Status → Status → Type 0
WritesBy old new due status = ((status ≡ due) × (new ≡ old)) ⊎ ((status ≡ Failed) × HasFailed old new)

-- where a text was written, the stream was asked after its last byte to pass it on
abbrev pub PassesOn : Bool → Status → Type 0
PassesOn waits Failed = Unit {0}
PassesOn waits NoMemory = Unit {0}
PassesOn waits status = waits ≡ false

-- an answer has no error; of a fault the line may be refused memory; another error stays
abbrev pub StaysError : Result Answer CommandError → CommandError → Type 0
StaysError (Ok answer) error = ⊥
StaysError (Err (Told fault)) error = error ≡ OutOfMemory
StaysError (Err ReadFailed) error = error ≡ ReadFailed
StaysError (Err OutOfMemory) error = error ≡ OutOfMemory

-- the same of what was answered; of a fault whose line was refused memory; or nothing was written
abbrev pub FinishesBy : ℕ → ℕ → Result Answer CommandError → Status → Type 0
FinishesBy old new (Ok answer) status = WritesBy old new answer.status status
FinishesBy old new (Err (Told fault)) status = WritesBy old new BadInput status ⊎ ((status ≡ NoMemory) × (new ≡ old))
FinishesBy old new (Err ReadFailed) status = (status ≡ Failed) × (new ≡ old)
FinishesBy old new (Err OutOfMemory) status = (status ≡ NoMemory) × (new ≡ old)

-- ---- a whole command

-- The status is the one that is due, and no read and no write failed; or it is `Failed`, and one did; or memory was refused.
abbrev pub EndsBy : ℕ → ℕ → Status → Status → Type 0
EndsBy old new due Failed = ((due ≡ Failed) × (new ≡ old)) ⊎ HasFailed old new
EndsBy old new due NoMemory = Unit {0}
EndsBy old new due status = (status ≡ due) × (new ≡ old)
