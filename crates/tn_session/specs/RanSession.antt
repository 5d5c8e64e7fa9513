-- A run of a session over a line.
use Rattle.std.specs.Prelude.{ℕ, ◌≡◌, List, [], Result, Ok, Err}
use Rattle.tn_wire.specs.Stream.{Told}
use Rattle.tn_session.specs.declared.fault.RunFault.{RunFault}
use Rattle.tn_session.specs.declared.turn.Finish.{Finish}
use Rattle.tn_session.specs.declared.turn.Finish.TheVariants as finish
use Rattle.tn_session.specs.Wire.{WireState}
use Rattle.tn_session.specs.Runs.{Log}
use Rattle.tn_session.specs.Ran.{Ran}
use Rattle.tn_session.specs.OneLog.{waits, is_over}
use Rattle.tn_session.specs.Talk.{Talk, stands}

-- a session that was given nothing yet
abbrev pub IsFresh : {State : Type 0} → Talk State → Type 0
IsFresh {State = State} talk = (state : State) × (talk ≡ stands (waits state []))

-- how a session stands after a run that ended so, in this state
abbrev pub EndsAs : {State : Type 0} → Result Finish RunFault → State → Talk State → Type 0
EndsAs (Ok finish.Finished) end talk = talk ≡ stands (is_over end)
EndsAs (Ok finish.Closed) end talk = (left : List ℕ) × (talk ≡ stands (waits end left))
EndsAs (Err why) end talk = Unit {0}

-- a run of a fresh session, that sent an opening first
abbrev pub RanSession : {State : Type 0} → (State → Told → Log State) → List ℕ → Talk State → WireState → Result Finish RunFault → Talk State → WireState → Type 0
RanSession {State = State} act opening first old result last new =
    (state : State) × (first ≡ stands (waits state [])) × (end : State) × EndsAs result end last × Ran act opening state old result end new
