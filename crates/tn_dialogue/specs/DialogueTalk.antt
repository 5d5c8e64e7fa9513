-- A host's session of several screens, as it is given pieces of a stream.
use Rattle.std.specs.Prelude.{ℕ, ◌≡◌, Bool, false, is_none, List, [], ◌++◌, Option, Some, None, Result, Ok, Err, slice_get}
use Rattle.ds_codec.specs.Geometry.{Sizes}
use Rattle.tn_wire.specs.Stream.{Told}
use Rattle.tn_cores.specs.declared.session.SessionFault.TheVariants.{NoDevice}
use Rattle.tn_cores.specs.Host.{opening}
use Rattle.tn_cores.specs.Replies.{bytes_of}
use Rattle.tn_session.specs.declared.fault.RunFault.{RunFault}
use Rattle.tn_session.specs.declared.fault.RunFault.TheVariants.{Session, Wire, OutOfMemory}
use Rattle.tn_session.specs.HostRan.{HasModel}
use Rattle.tn_session.specs.HostTalk.{NotMade}
use Rattle.tn_session.specs.OneLog.{waits, is_over, has_failed, is_at_fault}
use Rattle.tn_session.specs.Ran.{FailsAs, cause_of}
use Rattle.tn_session.specs.Runs.{Log, going, finished, GoesOn}
use Rattle.tn_session.specs.Talk.{Talk, stands, starved, EventFails, EndsWith, PieceFails}
use Rattle.tn_dialogue.specs.declared.screen.Screen.{Screen}
use Rattle.tn_dialogue.specs.declared.turn.Turn.{Turn}
use Rattle.tn_dialogue.specs.declared.turn.Turn.TheVariants as turns
use Rattle.tn_dialogue.specs.Dialogue.{Running, dialogue_start, dialogue_act}

-- a call did what the log says of an event: these bytes are due, and this is the state after it
abbrev pub Does : {State : Type 0} → Log State → Result Turn RunFault → State → List ℕ → Type 0
Does log (Ok turns.Goes) new due = log ≡ going due new
Does log (Ok turns.Finishes) new due = log ≡ finished due new
Does log (Err why) new due = FailsAs log why new (cause_of why)

-- what the event makes due was given, and nothing where it fails
abbrev pub TakesEvent : {State : Type 0} → Log State → Result Turn RunFault → List ℕ → State → Type 0
TakesEvent log (Ok turns.Goes) given end = log ≡ going given end
TakesEvent log (Ok turns.Finishes) given end = log ≡ finished given end
TakesEvent log (Err why) given end = EventFails log why given end (cause_of why)

-- the state and what is open are then these, and so much of the piece was not taken
abbrev pub TakesPiece : {State : Type 0} → (State → Told → Log State) → List ℕ → State → List ℕ → Result Turn RunFault → List ℕ → State → List ℕ → List ℕ → Type 0
TakesPiece act before state piece (Ok turns.Goes) given end left rest = GoesOn act before state piece given end left
TakesPiece act before state piece (Ok turns.Finishes) given end left rest =
    (used : List ℕ) × (piece ≡ used ++ rest) × EndsWith act before state used given end
TakesPiece act before state piece (Err why) given end left rest = PieceFails act before state piece why given end (cause_of why)

-- a session at its beginning
abbrev pub dialogue_talk : List Screen → ℕ → Sizes → Talk Running
dialogue_talk screens first sizes = stands (waits (dialogue_start screens first sizes) [])

-- what a host says first
abbrev pub first_said : Talk Running → List ℕ
first_said (stands (waits running left)) = bytes_of (opening running.core)
first_said talk = []

-- what was answered, where no fault of the stream ended it, nor want of memory
abbrev pub answers_in : Talk Running → List (ℕ × List ℕ)
answers_in (stands (waits running left)) = running.answers
answers_in (stands (is_over end)) = end.answers
answers_in talk = []

-- the fault that ended it
abbrev pub fault_in : Talk Running → Option RunFault
fault_in (stands (waits running left)) = None
fault_in (stands (is_over end)) = end.fault
fault_in (stands (has_failed why end)) = Some why
fault_in (stands (is_at_fault fault end)) = Some (Wire fault)
fault_in starved = Some OutOfMemory

-- a key led to its end
abbrev pub is_done : Talk Running → Bool
is_done (stands (is_over end)) = is_none end.fault
is_done talk = false

-- a session at its beginning, for a terminal of the sizes of the first screen's layout
abbrev pub talk_at : List Screen → ℕ → Option Screen → Talk Running
talk_at screens first None = starved
talk_at screens first (Some screen) = dialogue_talk screens first screen.layout.geometry

abbrev pub begun : List Screen → ℕ → Talk Running
begun screens first = talk_at screens first (slice_get screens first)

-- it is made where there is such a screen, and some model has the sizes of its layout
abbrev pub IsFit : Option Screen → Type 0
IsFit None = ⊥
IsFit (Some screen) = HasModel screen.layout

-- else it has no device; or memory was refused
abbrev pub IsNotMade : RunFault → Option Screen → Type 0
IsNotMade why None = why ≡ Session NoDevice
IsNotMade why (Some screen) = NotMade screen.layout why
