-- What a run over a line does, event by event, however its bytes are cut: the bytes that are due, and how it stands. A run
-- is told here by what one event does to it; `State` is all that it keeps.
use Rattle.std.specs.Prelude.{ℕ, ◌≡◌, List, [], ◌∷◌, ◌++◌}
use Rattle.tn_wire.specs.declared.event.WireFault.{WireFault}
use Rattle.tn_wire.specs.Stream.{Told, Tells, Faults}
use Rattle.tn_session.specs.declared.fault.RunFault.{RunFault}

-- it waits for the next event, it is over, or it fails and is left in this state
pub data Course (State : Type 0) : Type 0 where
  goes : State → Course State
  finishes : State → Course State
  fails : RunFault → State → Course State

-- the bytes that are due so far, in order, and how the run stands
pub record Log (State : Type 0) : Type 0 where
  pub due : List ℕ
  pub course : Course State

abbrev pub going : {State : Type 0} → List ℕ → State → Log State
going due state = record { due = due; course = goes state }

abbrev pub finished : {State : Type 0} → List ℕ → State → Log State
finished due state = record { due = due; course = finishes state }

abbrev pub failed : {State : Type 0} → RunFault → State → Log State
failed why state = record { due = []; course = fails why state }

-- what follows counts only while the run goes on
abbrev pub log_on : {State : Type 0} → List ℕ → Course State → (State → Log State) → Log State
log_on due (goes state) later = record { due = due ++ (later state).due; course = (later state).course }
log_on due (finishes state) later = finished due state
log_on due (fails why state) later = record { due = due; course = fails why state }

-- the log of a run in this state, over events
abbrev pub log_of : {State : Type 0} → (State → Told → Log State) → State → List Told → Log State
log_of act state [] = going [] state
log_of act state (event ∷ events) = log_on (act state event).due (act state event).course (λ next. log_of act next events)

-- ---- the same over bytes, where so much of the stream was open before them

-- The bytes are whole events and less than a token, and the run goes on.
pub record GoesOn {State : Type 0} (act : State → Told → Log State) (before : List ℕ) (state : State) (bytes due : List ℕ) (next : State) (left : List ℕ) : Type 0 where
  pub events : List Told
  pub tells : Tells (before ++ bytes) events left
  pub log : log_of act state events ≡ going due next

-- Events from a front of the bytes end the run. What comes after them is not looked at.
pub record EndsBy {State : Type 0} (act : State → Told → Log State) (before : List ℕ) (state : State) (bytes due : List ℕ) (course : Course State) : Type 0 where
  pub used : List ℕ
  pub more : List ℕ
  pub events : List Told
  pub left : List ℕ
  pub front : bytes ≡ used ++ more
  pub tells : Tells (before ++ used) events left
  pub log : log_of act state events ≡ record { due = due; course = course }

-- A front of the bytes is no stream, and the run went on up to its last byte, to this state.
pub record EndsAtFault {State : Type 0} (act : State → Told → Log State) (before : List ℕ) (state : State) (bytes due : List ℕ) (fault : WireFault) (next : State) : Type 0 where
  pub used : List ℕ
  pub more : List ℕ
  pub events : List Told
  pub front : bytes ≡ used ++ more
  pub faults : Faults (before ++ used) events fault
  pub log : log_of act state events ≡ going due next

-- What was sent is a front of what is due at some front of the bytes, after an opening.
pub record IsPartDue {State : Type 0} (act : State → Told → Log State) (opening before : List ℕ) (state : State) (bytes sent : List ℕ) : Type 0 where
  pub used : List ℕ
  pub more : List ℕ
  pub events : List Told
  pub left : List ℕ
  pub lost : List ℕ
  pub front : bytes ≡ used ++ more
  pub tells : Tells (before ++ used) events left
  pub part : opening ++ (log_of act state events).due ≡ sent ++ lost
