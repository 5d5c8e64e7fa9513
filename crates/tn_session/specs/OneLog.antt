-- Logs of streams: a stream has one at most, and the log of a front goes on to the log of the whole. They hold of whatever
-- an event does.
use Rattle.std.specs.Prelude.{ℕ, ◌≡◌, List, ◌++◌}
use Rattle.tn_wire.specs.declared.event.WireFault.{WireFault}
use Rattle.tn_wire.specs.Stream.{Told}
use Rattle.tn_session.specs.declared.fault.RunFault.{RunFault}
use Rattle.tn_session.specs.Runs.{Log, finishes, fails, GoesOn, EndsBy, EndsAtFault}

-- How a log stands at a stream's end: it goes on in this state, with so much open; or an event finished it in this state; or an
-- event failed, or the stream is at fault, and this is the state that is left.
pub data Standing (State : Type 0) : Type 0 where
  waits : State → List ℕ → Standing State
  is_over : State → Standing State
  has_failed : RunFault → State → Standing State
  is_at_fault : WireFault → State → Standing State

-- the state in which it stands
abbrev pub state_of : {State : Type 0} → Standing State → State
state_of (waits state left) = state
state_of (is_over state) = state
state_of (has_failed why state) = state
state_of (is_at_fault fault state) = state

-- the bytes' log from this state, where so much of the stream was open before them: what is due, and how it stands
abbrev pub HasLog : {State : Type 0} → (State → Told → Log State) → List ℕ → State → List ℕ → List ℕ → Standing State → Type 0
HasLog act before state bytes due (waits next left) = GoesOn act before state bytes due next left
HasLog act before state bytes due (is_over end) = EndsBy act before state bytes due (finishes end)
HasLog act before state bytes due (has_failed why last) = EndsBy act before state bytes due (fails why last)
HasLog act before state bytes due (is_at_fault fault last) = EndsAtFault act before state bytes due fault last

-- bytes have one log at most: two that hold of them have the same bytes due and stand alike, in one state, also where they failed
abbrev pub HaveOneLog : (State : Type 0) → Type 0
HaveOneLog State =
    (act : State → Told → Log State) (before : List ℕ) (state : State) (bytes due others : List ℕ) (standing other : Standing State)
    → HasLog act before state bytes due standing → HasLog act before state bytes others other
    → (due ≡ others) × (standing ≡ other)

-- What follows a log: one that goes on is followed by the log of more bytes, from its state and what is open, and what is
-- due of these comes after what was due; any other stays as it was.
abbrev pub IsFollowed : {State : Type 0} → (State → Told → Log State) → List ℕ → List ℕ → Standing State → List ℕ → Standing State → Type 0
IsFollowed act more due (waits next left) whole later =
    (rest : List ℕ) × (whole ≡ due ++ rest) × HasLog act left next more rest later
IsFollowed act more due standing whole later = (whole ≡ due) × (later ≡ standing)

-- the log of a front of the bytes is followed by the log of the whole
abbrev pub LogsGoOn : (State : Type 0) → Type 0
LogsGoOn State =
    (act : State → Told → Log State) (before : List ℕ) (state : State) (front more due whole : List ℕ) (standing later : Standing State)
    → HasLog act before state front due standing → HasLog act before state (front ++ more) whole later
    → IsFollowed act more due standing whole later
