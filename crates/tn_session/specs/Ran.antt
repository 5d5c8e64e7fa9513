-- What a run over a line did: what it read, what it sent, and how its log and the line then stand.
use Rattle.std.specs.Prelude.{ℕ, ◌≡◌, ◌+◌, ◌*◌, ◌≤◌, ◌⊎◌, List, [], ◌∷◌, ◌++◌, length, replicate, Option, Some, None, Result, Ok, Err}
use Rattle.scr_check.specs.declared.binding.BindError.{BindError}
use Rattle.scr_check.specs.declared.binding.BindError.TheVariants.{Refused, OutOfMemory as BindMemory}
use Rattle.tn_wire.specs.declared.event.WireFault.{WireFault}
use Rattle.tn_wire.specs.Stream.{Told, Tells}
use Rattle.tn_cores.specs.declared.session.SessionFault.{SessionFault}
use Rattle.tn_cores.specs.declared.session.SessionFault.TheVariants.{LineFault, TooManyReads, Closed}
use Rattle.tn_session.specs.declared.stop.Stop.{Stop}
use Rattle.tn_session.specs.declared.stop.Stop.TheVariants.{Ended, ReadFailed, WriteFailed}
use Rattle.tn_session.specs.declared.fault.RunFault.{RunFault}
use Rattle.tn_session.specs.declared.fault.RunFault.TheVariants as faults
use Rattle.tn_session.specs.declared.turn.Turn.{Turn}
use Rattle.tn_session.specs.declared.turn.Turn.TheVariants as turns
use Rattle.tn_session.specs.declared.turn.Finish.{Finish}
use Rattle.tn_session.specs.declared.turn.Finish.TheVariants as finish
use Rattle.tn_session.specs.Wire.{WireState, IsWrite}
use Rattle.tn_session.specs.Runs.{Log, Course, finishes, fails, going, finished, failed, GoesOn, EndsBy, EndsAtFault, IsPartDue}

-- ---- faults, by what is at fault

-- the stream; memory; a read or a write; the number of reads; the line's end; an event, or no device that fits
pub data Cause : Type 0 where
  of_stream : WireFault → Cause
  of_memory : Cause
  of_line : Cause
  of_reads : Cause
  of_end : Cause
  of_events : Cause

abbrev pub session_cause : SessionFault → Cause
session_cause LineFault = of_line
session_cause TooManyReads = of_reads
session_cause Closed = of_end
session_cause _ = of_events

abbrev pub cause_of : RunFault → Cause
cause_of (faults.Wire fault) = of_stream fault
cause_of faults.OutOfMemory = of_memory
cause_of (faults.Session why) = session_cause why
cause_of _ = of_events

-- why the fields of an answer aren't bound, as a run tells it
abbrev pub bind_fault : BindError → RunFault
bind_fault (Refused why) = faults.Bind why
bind_fault BindMemory = faults.OutOfMemory

-- a core's refusal of an event
abbrev pub IsOfEvents : Cause → Type 0
IsOfEvents of_events = Unit {0}
IsOfEvents _ = ⊥

-- ---- one event

-- An event may ask for memory where it isn't at fault: what is found at fault asks for none.
abbrev pub MayAsk : {State : Type 0} → Course State → Type 0
MayAsk (fails why state) = ⊥
MayAsk course = Unit {0}

-- a fault of an event is the log's, and so is the state that is left; or memory was refused to an event that may ask for it
abbrev pub FailsAs : {State : Type 0} → Log State → RunFault → State → Cause → Type 0
FailsAs log why new of_memory = MayAsk log.course
FailsAs log why new of_events = log ≡ failed why new
FailsAs log why new _ = ⊥

-- a call did what the log says of an event: these bytes are due, and this is the state after it
abbrev pub Does : {State : Type 0} → Log State → Result Turn RunFault → State → List ℕ → Type 0
Does log (Ok turns.Goes) new due = log ≡ going due new
Does log (Ok turns.Finishes) new due = log ≡ finished due new
Does log (Err why) new due = FailsAs log why new (cause_of why)

-- ---- what went over the line without a read

pub record SentOn (old new : WireState) (bytes : List ℕ) (stop : Option Stop) : Type 0 where
  pub sent : new.sent ≡ old.sent ++ bytes
  pub rest : IsWrite old new
  pub stop_is : new.stop ≡ stop

-- a front of the bytes went out, and then a write failed
pub record SentPart (old new : WireState) (bytes : List ℕ) : Type 0 where
  pub part : List ℕ
  pub lost : List ℕ
  pub whole : bytes ≡ part ++ lost
  pub went : SentOn old new part (Some WriteFailed)

abbrev pub Sends : WireState → List ℕ → Result (Unit {0}) RunFault → WireState → Type 0
Sends old bytes (Ok done) new = SentOn old new bytes None
Sends old bytes (Err why) new = (why ≡ faults.Session LineFault) × SentPart old new bytes

-- ---- memory that was refused

-- Memory was refused to an event that may ask for it, after bytes at which this is due and the run goes on.
pub record LacksMemory {State : Type 0} (act : State → Told → Log State) (before : List ℕ) (state : State) (bytes due : List ℕ) : Type 0 where
  pub used : List ℕ
  pub next : State
  pub left : List ℕ
  pub taken : List ℕ
  pub event : Told
  pub after : List ℕ
  pub more : List ℕ
  pub front : bytes ≡ used ++ (taken ++ more)
  pub log : GoesOn act before state used due next left
  pub tells : Tells (left ++ taken) (event ∷ []) after
  pub asks : MayAsk (act next event).course

-- ---- the whole run

-- how a run ends whose line gave nothing
abbrev pub stopped_by : Option Stop → Result Finish RunFault
stopped_by (Some Ended) = Ok finish.Closed
stopped_by _ = Err (faults.Session LineFault)

-- What a run does to a wire, whatever passes: it reads at most a million times, each time with room for 4,096 bytes, so that
-- at most so many a read are received; the line is the one that was handed over, and isn't flushed.
pub record ReadsInPieces (old new : WireState) : Type 0 where
  pub count : ℕ
  pub few : count ≤ 1000000
  pub reads : new.reads ≡ old.reads + count
  pub rooms : new.rooms ≡ old.rooms ++ replicate count 4096
  pub bytes : length new.received ≤ length old.received + 4096 * count
  pub line : new.line ≡ old.line
  pub flushes : new.flushes ≡ old.flushes

-- so much was read and sent, and so the line then stands
pub record PassedOver (old new : WireState) (stream sent : List ℕ) (stop : Option Stop) : Type 0 where
  pub received : new.received ≡ old.received ++ stream
  pub sent_is : new.sent ≡ old.sent ++ sent
  pub pieces : ReadsInPieces old new
  pub stop_is : new.stop ≡ stop

-- the log goes on at the end of what was read, and all that is due was sent
pub record IsOpen {State : Type 0} (act : State → Told → Log State) (opening : List ℕ) (state : State) (old : WireState) (end : State) (new : WireState) (stop : Option Stop) : Type 0 where
  pub stream : List ℕ
  pub due : List ℕ
  pub left : List ℕ
  pub log : GoesOn act [] state stream due end left
  pub passed : PassedOver old new stream (opening ++ due) stop

-- a front of what is due was sent, and then a write failed
pub record IsCutShort {State : Type 0} (act : State → Told → Log State) (opening : List ℕ) (state : State) (old new : WireState) : Type 0 where
  pub stream : List ℕ
  pub sent : List ℕ
  pub part : IsPartDue act opening [] state stream sent
  pub passed : PassedOver old new stream sent (Some WriteFailed)

abbrev pub RunFails : {State : Type 0} → (State → Told → Log State) → List ℕ → State → WireState → RunFault → WireState → Cause → Type 0
RunFails {State = State} act opening state old why new (of_stream fault) =
    (stream : List ℕ) × (due : List ℕ) × (last : State) × EndsAtFault act [] state stream due fault last
    × PassedOver old new stream (opening ++ due) None
-- at the start, with nothing sent, or at an event
RunFails act opening state old why new of_memory =
    (new ≡ old) ⊎ ((stream : List ℕ) × (due : List ℕ) × LacksMemory act [] state stream due × PassedOver old new stream (opening ++ due) None)
RunFails {State = State} act opening state old why new of_line =
    ((end : State) × IsOpen act opening state old end new (Some ReadFailed)) ⊎ IsCutShort act opening state old new
RunFails {State = State} act opening state old why new of_reads =
    (end : State) × IsOpen act opening state old end new None × (new.reads ≡ old.reads + 1000000)
RunFails act opening state old why new of_end = ⊥
RunFails {State = State} act opening state old why new of_events =
    (stream : List ℕ) × (due : List ℕ) × (last : State) × EndsBy act [] state stream due (fails why last)
    × PassedOver old new stream (opening ++ due) None

-- A run that sent an opening first. Where it finished or the line ended, this is its state at the end.
abbrev pub Ran : {State : Type 0} → (State → Told → Log State) → List ℕ → State → WireState → Result Finish RunFault → State → WireState → Type 0
Ran act opening state old (Ok finish.Finished) end new =
    (stream : List ℕ) × (due : List ℕ) × EndsBy act [] state stream due (finishes end) × PassedOver old new stream (opening ++ due) None
Ran act opening state old (Ok finish.Closed) end new = IsOpen act opening state old end new (Some Ended)
Ran act opening state old (Err why) end new = RunFails act opening state old why new (cause_of why)
