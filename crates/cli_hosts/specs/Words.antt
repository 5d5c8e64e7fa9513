-- What is printed of a terminal that ended.
use Rattle.std.specs.Prelude.{ℕ, ◌≡◌, List, [], ◌++◌, codes, Bool, true, false, Option, Some, None, Result, Ok, Err}
use Rattle.std.specs.Fmt.{decimal}
use Rattle.cli_commands.specs.declared.status.Status.{Status}
use Rattle.cli_commands.specs.declared.status.Status.TheVariants.{Failed as HasFailed, NoMemory}
use Rattle.scr_layout.specs.Entry.{Declared}
use Rattle.session_hub.specs.declared.hub.Ended.{Ended}
use Rattle.session_hub.specs.declared.seat.End.{End}
use Rattle.session_hub.specs.declared.seat.End.TheVariants.{Over, Closed, Broken, Idle, Slow, Flooded}
use Rattle.tn_cores.specs.declared.session.SessionFault.TheVariants as faults
use Rattle.tn_session.specs.declared.fault.RunFault.{RunFault}
use Rattle.tn_session.specs.declared.fault.RunFault.TheVariants.{Session, OutOfMemory}
use Rattle.tn_session.specs.HostLog.{Outcome}
use Rattle.tn_session.specs.HostTalk.{outcome_in}
use Rattle.cli_sessions.specs.Printing.{Printing}
use Rattle.cli_sessions.specs.Session.{session_seen, session_lines}
use Rattle.cli_hosts.specs.declared.settling.Settled.{Settled}
use Rattle.cli_hosts.specs.declared.settling.Settled.TheVariants.{Answered, Failed, Starved}
use Rattle.cli_hosts.specs.declared.word.Word as held
use Rattle.cli_hosts.specs.declared.word.Word.TheVariants as variants
use Rattle.cli_hosts.specs.Hosting.{Hosting}
use Rattle.cli_hosts.specs.Writing.{Writes}

-- what came of its session; or a limit ended it; or memory was refused to it
pub data Word : Type 0 where
  of_session : Result Outcome RunFault → Word
  of_limit : End → Word
  of_memory : Word

abbrev pub word_seen : held.Word → Word
word_seen (variants.Session session) = of_session (session_seen session)
word_seen (variants.Limit end) = of_limit end
word_seen variants.Starved = of_memory

-- what ended a terminal whose session went on
abbrev pub word_left : End → Word
word_left Over = of_session (Err (Session faults.Closed))
word_left Closed = of_session (Err (Session faults.Closed))
word_left Broken = of_session (Err (Session faults.LineFault))
word_left Idle = of_limit Idle
word_left Slow = of_limit Slow
word_left Flooded = of_limit Flooded

abbrev pub word_over : Option Outcome → Word
word_over (Some outcome) = of_session (Ok outcome)
word_over None = word_left Over

-- An answer is told once all that was due went out.
abbrev pub word_good : Option Outcome → End → Word
word_good outcome Over = word_over outcome
word_good outcome end = word_left end

abbrev pub word_failed : RunFault → Word
word_failed OutOfMemory = of_memory
word_failed why = of_session (Err why)

-- A fault of the session comes before what ended the terminal.
abbrev pub word_of : Option RunFault → Option Outcome → End → Word
word_of (Some why) outcome end = word_failed why
word_of None outcome end = word_good outcome end

abbrev pub word_ended : Ended Hosting → Word
word_ended ended = word_of ended.session.fault (outcome_in ended.session.talk) ended.end

-- ---- its lines

abbrev pub limit_number : End → List ℕ
limit_number Idle = codes "N12"
limit_number Slow = codes "N13"
limit_number Flooded = codes "N14"
limit_number end = []

abbrev pub limit_line : ℕ → End → List ℕ
limit_line number end = codes "terminal " ++ (decimal number ++ (codes " fault " ++ (limit_number end ++ codes "\n")))

abbrev pub starved_line : ℕ → List ℕ
starved_line number = codes "terminal " ++ (decimal number ++ codes " out of memory\n")

abbrev pub word_lines : List Declared → ℕ → Word → List ℕ
word_lines entries number (of_session session) = session_lines entries number session
word_lines entries number (of_limit end) = limit_line number end
word_lines entries number of_memory = starved_line number

abbrev pub settled_of : Word → Settled
settled_of (of_session (Ok outcome)) = Answered
settled_of (of_session (Err why)) = Failed
settled_of (of_limit end) = Failed
settled_of of_memory = Starved

-- ---- what is printed

-- the lines of a terminal that ended were written; or memory was refused for them, and none is; or a write failed
abbrev pub PrintsEnded : List Declared → Ended Hosting → Printing → Printing → Result Settled Status → Type 0
PrintsEnded entries ended old new (Ok settled) = Writes old new (word_lines entries ended.number (word_ended ended)) true × (settled ≡ settled_of (word_ended ended))
PrintsEnded entries ended old new (Err NoMemory) = new ≡ old
PrintsEnded entries ended old new (Err HasFailed) = Writes old new (word_lines entries ended.number (word_ended ended)) false
PrintsEnded entries ended old new (Err status) = ⊥

-- nothing is written of a terminal that is not there, or goes on
abbrev pub Settles : List Declared → Option (Ended Hosting) → Printing → Printing → Result (Option Settled) Status → Type 0
Settles entries None old new result = (result ≡ Ok None) × (new ≡ old)
Settles entries (Some ended) old new (Ok (Some settled)) = PrintsEnded entries ended old new (Ok settled)
Settles entries (Some ended) old new (Ok None) = ⊥
Settles entries (Some ended) old new (Err status) = PrintsEnded entries ended old new (Err status)
