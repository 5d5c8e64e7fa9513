-- What `serve` prints of its terminals, and its status.
use Rattle.std.specs.Prelude.{ℕ, ◌≡◌, ◌+◌, ◌<◌, ◌⊎◌, Bool, true, false, List, [], ◌∷◌, length, ◌++◌, Option, None, Some, Result, Ok, Err}
use Rattle.std.specs.List.{list_any}
use Rattle.std.specs.declared.io.ErrorKind.{ErrorKind}
use Rattle.scr_layout.specs.Entry.{Declared}
use Rattle.scr_layout.specs.Layout.{Declaration}
use Rattle.cli_commands.specs.declared.status.Status.{Status}
use Rattle.cli_commands.specs.declared.status.Status.TheVariants.{Done, Failed, NoMemory}
use Rattle.cli_commands.specs.Streams.{IsWantOrFailure, failure_of}
use Rattle.tn_session.specs.declared.fault.RunFault.{RunFault}
use Rattle.tn_session.specs.HostLog.{Outcome}
use Rattle.tn_session.specs.Wire.{FreshLine, WireState, begun}
use Rattle.cli_sessions.specs.Printing.{Printing, IsPrinted}
use Rattle.cli_sessions.specs.Session.{session_lines, served_text, is_failed, IsHosted, IsTold}

-- ---- where lines come from, and wires go

-- these lines were handed over, the first of those that are to come
abbrev pub Hands : Option (List FreshLine) → List FreshLine → Option (List FreshLine) → Type 0
Hands None lines new = Unit {0}
Hands (Some coming) lines None = ⊥
Hands (Some coming) lines (Some rest) = coming ≡ lines ++ rest

-- the next line is the first of those that are to come; where none can be had, they are as before
abbrev pub HandsNext : {L E : Type 0} → (L → FreshLine) → Option (List FreshLine) → Result L E → Option (List FreshLine) → Type 0
HandsNext seen None result new = Unit {0}
HandsNext seen (Some coming) (Ok line) new = Hands (Some coming) (seen line ∷ []) new
HandsNext seen (Some coming) (Err error) new = Hands (Some coming) [] new

-- the lines that are to come, where they are known; the wires of the terminals that have gone; and the errors in place of
-- terminals that couldn't be had
pub record Visited : Type 0 where
  pub coming : Option (List FreshLine)
  pub gone : List WireState
  pub missing : List ErrorKind

-- ---- what came of them

-- The session over each line, one after the other, and the wire as it left it; none was out of memory.
abbrev pub AreHosted : Declaration → List (List ℕ) → List FreshLine → List WireState → List (Result Outcome RunFault) → Type 0
AreHosted layout records [] [] [] = Unit {0}
AreHosted layout records (line ∷ lines) (wire ∷ wires) (session ∷ sessions) =
    (IsHosted layout records (begun line) session wire × IsTold session) × AreHosted layout records lines wires sessions
AreHosted layout records _ _ _ = ⊥

abbrev pub some_failed : List (Result Outcome RunFault) → Bool
some_failed sessions = list_any is_failed sessions

-- the terminals, and what is written
pub record Serving : Type 0 where
  pub terminals : Visited
  pub output : Printing

abbrev pub serving : Visited → Printing → Serving
serving terminals output = record { terminals = terminals; output = output }

-- so many terminals came, were served and have gone, and all their sessions' lines were written
pub record ServesAll (layout : Declaration) (records : List (List ℕ)) (number count : ℕ) (old new : Serving) (failed : Bool) : Type 0 where
  pub lines : List FreshLine
  pub wires : List WireState
  pub sessions : List (Result Outcome RunFault)
  pub all : length sessions ≡ count
  pub came : Hands old.terminals.coming lines new.terminals.coming
  pub went : new.terminals.gone ≡ old.terminals.gone ++ wires
  pub none_missing : new.terminals.missing ≡ old.terminals.missing
  pub hosted : AreHosted layout records lines wires sessions
  pub any : some_failed sessions ≡ failed
  pub written : IsPrinted old.output new.output (served_text layout.entries number sessions) true

-- ---- what ends the command early

-- one terminal came and has gone, and this came of its session
pub record IsVisited (layout : Declaration) (records : List (List ℕ)) (old new : Visited) (session : Result Outcome RunFault) : Type 0 where
  pub line : FreshLine
  pub wire : WireState
  pub came : Hands old.coming (line ∷ []) new.coming
  pub went : new.gone ≡ old.gone ++ wire ∷ []
  pub none_missing : new.missing ≡ old.missing
  pub hosted : IsHosted layout records (begun line) session wire

-- the next terminal couldn't be had: the status is that of the error
pub record IsMissing (old new : Serving) (status : Status) : Type 0 where
  pub why : ErrorKind
  pub is : status ≡ failure_of why
  pub came : Hands old.terminals.coming [] new.terminals.coming
  pub gone : new.terminals.gone ≡ old.terminals.gone
  pub missing : new.terminals.missing ≡ old.terminals.missing ++ why ∷ []
  pub output : new.output ≡ old.output

-- memory was refused, in a session or for its lines: none of them is written
pub record LacksMemory (layout : Declaration) (records : List (List ℕ)) (old new : Serving) (status : Status) : Type 0 where
  pub session : Result Outcome RunFault
  pub is : status ≡ NoMemory
  pub visited : IsVisited layout records old.terminals new.terminals session
  pub output : new.output ≡ old.output

-- a write of a session's lines failed
pub record IsUnwritten (layout : Declaration) (records : List (List ℕ)) (number : ℕ) (old new : Serving) (status : Status) : Type 0 where
  pub session : Result Outcome RunFault
  pub is : status ≡ Failed
  pub visited : IsVisited layout records old.terminals new.terminals session
  pub told : IsTold session
  pub front : IsPrinted old.output new.output (session_lines layout.entries number session) false

-- the command ended with this status at the terminal of this number
abbrev pub StopsAt : Declaration → List (List ℕ) → ℕ → Serving → Serving → Status → Type 0
StopsAt layout records number old new status =
    IsMissing old new status ⊎ (LacksMemory layout records old new status ⊎ IsUnwritten layout records number old new status)

-- The terminals before were served, and all their lines were written; at the next one the command ended.
pub record ServesSome (layout : Declaration) (records : List (List ℕ)) (count : ℕ) (old new : Serving) (status : Status) : Type 0 where
  pub served : ℕ
  pub few : served < count
  pub middle : Serving
  pub failed : Bool
  pub all : ServesAll layout records 1 served old middle failed
  pub stops : StopsAt layout records (served + 1) middle new status

-- The status is Failed where a session failed though all were served, or where a terminal couldn't be had or a write failed,
-- which ends the command. It is NoMemory where memory was refused, to the command at its beginning or to a terminal.
abbrev pub Serves : Declaration → List (List ℕ) → ℕ → Serving → Serving → Status → Type 0
Serves layout records count old new Done = ServesAll layout records 1 count old new false
Serves layout records count old new Failed = ServesAll layout records 1 count old new true ⊎ ServesSome layout records count old new Failed
Serves layout records count old new NoMemory = (new ≡ old) ⊎ ServesSome layout records count old new NoMemory
Serves layout records count old new status = ⊥

-- terminals that come from the first on, of which none is known before
abbrev pub ServesAnew : Declaration → List (List ℕ) → ℕ → Printing → Printing → Status → Type 0
ServesAnew layout records count old new status =
    (gone : List WireState) × (missing : List ErrorKind)
    × Serves layout records count (serving (record { coming = None; gone = []; missing = [] }) old)
    (serving (record { coming = None; gone = gone; missing = missing }) new) status

-- ---- as the program goes on

-- so many terminals: whether a session failed, or the status with which the command ends early
abbrev pub ServesEach : Declaration → List (List ℕ) → ℕ → Serving → Serving → Result Bool Status → Type 0
ServesEach layout records count old new (Ok failed) = ServesAll layout records 1 count old new failed
ServesEach layout records count old new (Err status) = IsWantOrFailure status × ServesSome layout records count old new status

-- one terminal
abbrev pub ServesNext : Declaration → List (List ℕ) → ℕ → Serving → Serving → Result Bool Status → Type 0
ServesNext layout records number old new (Ok failed) = ServesAll layout records number 1 old new failed
ServesNext layout records number old new (Err status) = IsWantOrFailure status × StopsAt layout records number old new status

-- the lines of a session were written; or memory was refused for them, or a write failed
abbrev pub WritesSession : List Declared → ℕ → Result Outcome RunFault → Printing → Printing → Result (Unit {0}) Status → Type 0
WritesSession entries number session old new (Ok done) = IsPrinted old new (session_lines entries number session) true
WritesSession entries number session old new (Err NoMemory) = new ≡ old
WritesSession entries number session old new (Err Failed) = IsPrinted old new (session_lines entries number session) false
WritesSession entries number session old new (Err status) = ⊥
