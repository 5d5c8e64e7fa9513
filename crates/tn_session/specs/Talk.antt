-- A session without a line: pieces of the peer's stream go in, and the bytes that are due after them come out.
use Rattle.std.specs.Prelude.{ℕ, ◌≡◌, ◌≤◌, List, [], ◌∷◌, ◌++◌, length, take, Option, Some, None, Result, Ok, Err}
use Rattle.tn_wire.specs.Stream.{Told}
use Rattle.tn_session.specs.declared.fault.RunFault.{RunFault}
use Rattle.tn_session.specs.declared.fault.RunFault.TheVariants as faults
use Rattle.tn_session.specs.declared.progress.Progress.{Progress}
use Rattle.tn_session.specs.declared.progress.Progress.TheVariants.{More, Done}
use Rattle.tn_session.specs.declared.turn.Turn.{Turn}
use Rattle.tn_session.specs.declared.turn.Turn.TheVariants as turns
use Rattle.tn_session.specs.Runs.{Log, finishes, fails, going, finished, failed, GoesOn, EndsBy, EndsAtFault}
use Rattle.tn_session.specs.Ran.{Cause, of_stream, of_memory, of_events, cause_of, MayAsk, LacksMemory}
use Rattle.tn_session.specs.OneLog.{Standing, waits, is_over, has_failed, is_at_fault, state_of}

-- How a session stands: as the log of what it was given does; or memory was refused to it.
pub data Talk (State : Type 0) : Type 0 where
  stands : Standing State → Talk State
  starved : Talk State

-- a session that failed so, and was left in this state
abbrev pub failed_talk : {State : Type 0} → RunFault → State → Talk State
failed_talk (faults.Wire fault) state = stands (is_at_fault fault state)
failed_talk faults.OutOfMemory state = starved
failed_talk why state = stands (has_failed why state)

-- the state of a session that waits for more
abbrev pub listening_in : {State : Type 0} → Talk State → Option State
listening_in (stands (waits state left)) = Some state
listening_in talk = None

-- the last state of a session that is over
abbrev pub last_in : {State : Type 0} → Talk State → Option State
last_in (stands (is_over end)) = Some end
last_in talk = None

-- the state of a session to which memory was not refused: where it failed, the one that was left
abbrev pub IsMachineOf : {State : Type 0} → Talk State → State → Type 0
IsMachineOf (stands standing) machine = machine ≡ state_of standing
IsMachineOf starved machine = Unit {0}

-- bytes were added, of which this holds
abbrev pub Adds : List ℕ → List ℕ → (List ℕ → Type 0) → Type 0
Adds old new Claim = (given : List ℕ) × (new ≡ old ++ given) × Claim given

-- ---- one event: what it makes due was given, and nothing where it fails

abbrev pub EventFails : {State : Type 0} → Log State → RunFault → List ℕ → State → Cause → Type 0
EventFails log why given end of_memory = MayAsk log.course × (given ≡ [])
EventFails log why given end of_events = (log ≡ failed why end) × (given ≡ [])
EventFails log why given end _ = ⊥

abbrev pub TakesEvent : {State : Type 0} → Log State → Result Turn RunFault → List ℕ → State → Type 0
TakesEvent log (Ok turns.Goes) given end = log ≡ going given end
TakesEvent log (Ok turns.Finishes) given end = log ≡ finished given end
TakesEvent log (Err why) given end = EventFails log why given end (cause_of why)

-- ---- one piece, where so much of the stream was open before

-- These bytes are due at a front of the piece at which the log goes on: what was due before an event that fails.
pub record IsDueBefore {State : Type 0} (act : State → Told → Log State) (before : List ℕ) (state : State) (piece given : List ℕ) : Type 0 where
  pub front : List ℕ
  pub more : List ℕ
  pub next : State
  pub left : List ℕ
  pub cut : piece ≡ front ++ more
  pub log : GoesOn act before state front given next left

-- These bytes end the session, and without the last of them it would go on.
pub record EndsWith {State : Type 0} (act : State → Told → Log State) (before : List ℕ) (state : State) (used given : List ℕ) (end : State) : Type 0 where
  pub ends : EndsBy act before state used given (finishes end)
  pub last : (front : List ℕ) (b : ℕ) → used ≡ front ++ b ∷ []
      → (due : List ℕ) × (next : State) × (left : List ℕ) × GoesOn act before state front due next left

-- What was due before the fault was given. The state is the one that is left: at a fault of the stream that to which the events before
-- it led, at an event that fails what its log says. Of memory that was refused no state is told.
abbrev pub PieceFails : {State : Type 0} → (State → Told → Log State) → List ℕ → State → List ℕ → RunFault → List ℕ → State → Cause → Type 0
PieceFails act before state piece why given end (of_stream fault) =
    EndsAtFault act before state piece given fault end × IsDueBefore act before state piece given
PieceFails act before state piece why given end of_memory = LacksMemory act before state piece given
PieceFails act before state piece why given end of_events =
    EndsBy act before state piece given (fails why end) × IsDueBefore act before state piece given
PieceFails act before state piece why given end _ = ⊥

-- the state and what is open are then these, and so much of the piece was not taken
abbrev pub TakesPiece : {State : Type 0} → (State → Told → Log State) → List ℕ → State → List ℕ → Result Turn RunFault → List ℕ → State → List ℕ → List ℕ → Type 0
TakesPiece act before state piece (Ok turns.Goes) given end left rest = GoesOn act before state piece given end left
TakesPiece act before state piece (Ok turns.Finishes) given end left rest =
    (used : List ℕ) × (piece ≡ used ++ rest) × EndsWith act before state used given end
TakesPiece act before state piece (Err why) given end left rest = PieceFails act before state piece why given end (cause_of why)

-- ---- one call

-- a session that waits takes a piece: what was given is due by its log, and so the session then stands
abbrev pub Hears : {State : Type 0} → (State → Told → Log State) → List ℕ → State → List ℕ → Result Progress RunFault → List ℕ → Talk State → Type 0
Hears {State = State} act before state piece (Ok More) given new =
    (next : State) × (left : List ℕ) × GoesOn act before state piece given next left × (new ≡ stands (waits next left))
Hears {State = State} act before state piece (Ok (Done taken)) given new =
    (end : State) × (taken ≤ length piece) × EndsWith act before state (take taken piece) given end × (new ≡ stands (is_over end))
Hears {State = State} act before state piece (Err why) given new =
    (end : State) × PieceFails act before state piece why given end (cause_of why) × (new ≡ failed_talk why end)

-- nothing is taken or given, and the session stays as it is
abbrev pub Stays : {State : Type 0} → Talk State → Result Progress RunFault → Result Progress RunFault → List ℕ → Talk State → Type 0
Stays old word result given new = (result ≡ word) × (given ≡ []) × (new ≡ old)

-- A session that is over takes nothing more, and one that failed answers its fault again and stays as it was left.
abbrev pub Takes : {State : Type 0} → (State → Told → Log State) → Talk State → List ℕ → Result Progress RunFault → List ℕ → Talk State → Type 0
Takes act (stands (waits state before)) piece result given new = Hears act before state piece result given new
Takes act (stands (is_over end)) piece result given new = Stays (stands (is_over end)) (Ok (Done 0)) result given new
Takes act (stands (has_failed why end)) piece result given new = Stays (stands (has_failed why end)) (Err why) result given new
Takes act (stands (is_at_fault fault end)) piece result given new = Stays (stands (is_at_fault fault end)) (Err (faults.Wire fault)) result given new
Takes act starved piece result given new = Stays starved (Err faults.OutOfMemory) result given new
