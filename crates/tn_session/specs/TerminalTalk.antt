-- A terminal that somebody works, without a line.
use Rattle.std.specs.Prelude.{ℕ, ◌≡◌, ◌-◌, ◌==◌, Bool, true, false, not, ◌&&◌, is_some, List, [], ◌∷◌, ◌++◌, Option, Some, None, Result, Ok, Err, if◌then◌else◌}
use Rattle.ds_screen.specs.Picture.{Picture}
use Rattle.ds_screen.specs.Fields.{attribute_before}
use Rattle.ds_terminal.specs.Terminal.{KeyReply, done, inhibited, ignored, sent}
use Rattle.tn_wire.specs.Stream.{Told}
use Rattle.tn_cores.specs.declared.device.Device.{Device}
use Rattle.tn_cores.specs.declared.session.Agreed.{Agreed}
use Rattle.tn_session.specs.declared.arrived.Arrived.{Arrived}
use Rattle.tn_session.specs.declared.fault.RunFault.{RunFault}
use Rattle.tn_session.specs.declared.fault.RunFault.TheVariants as faults
use Rattle.tn_session.specs.declared.pressed.Pressed.{Pressed}
use Rattle.tn_session.specs.declared.pressed.Pressed.TheVariants as keyed
use Rattle.tn_session.specs.declared.terminal_state.TerminalState.{TerminalState}
use Rattle.tn_session.specs.EndCores.{core_agreed, is_tolerant}
use Rattle.tn_session.specs.Kept.{Kept, Keeping}
use Rattle.tn_session.specs.LuNames.{name_under}
use Rattle.tn_session.specs.OneLog.{waits, is_over, has_failed, is_at_fault, state_of}
use Rattle.tn_session.specs.Runs.{Course, goes, finishes, fails, Log}
use Rattle.tn_session.specs.Strikes.{Strike, struck_by}
use Rattle.tn_session.specs.declared.progress.Progress.{Progress}
use Rattle.tn_session.specs.declared.progress.Progress.TheVariants.{More}
use Rattle.tn_session.specs.Talk.{Talk, stands, starved, Takes}
use Rattle.tn_session.specs.TerminalLog.{TerminalRunning, operator_at, terminal_act, typed_key, is_waiting, keeping_terminal, tolerant_terminal}

-- ---- one event: what a run does that has no keys, and goes on where it is over

abbrev pub without_keys : Course TerminalRunning → Course TerminalState
without_keys (goes running) = goes running.state
without_keys (finishes running) = goes running.state
without_keys (fails why running) = fails why running.state

abbrev pub unkeyed : Log TerminalRunning → Log TerminalState
unkeyed log = record { due = log.due; course = without_keys log.course }

abbrev pub heard_act : TerminalState → Told → Log TerminalState
heard_act state event = unkeyed (terminal_act (record { state = state; keys = [] }) event)

-- ---- one key

-- what is sent, what the terminal then keeps, and what became of the key
pub record Work : Type 0 where
  pub due : List ℕ
  pub state : TerminalState
  pub answer : Pressed

abbrev pub key_answer : KeyReply → Pressed
key_answer done = keyed.Done
key_answer inhibited = keyed.Inhibited
key_answer ignored = keyed.Ignored
key_answer (sent bytes) = keyed.Sent

-- a key before the session is ready is ignored
abbrev pub worked_under : Option Agreed → TerminalState → Strike → Work
worked_under None state key = record { due = []; state = state; answer = keyed.Ignored }
worked_under (Some agreed) state key = record {
  due = (typed_key agreed state key).due;
  state = (typed_key agreed state key).state;
  answer = key_answer (struck_by key (operator_at state)).turn.reply;
}

abbrev pub worked : TerminalState → Strike → Work
worked state key = worked_under (core_agreed state.core) state key

abbrev pub GivesKey : TerminalState → Strike → Result Pressed RunFault → List ℕ → TerminalState → Type 0
GivesKey state key (Ok answer) given new =
    (answer ≡ (worked state key).answer) × (given ≡ (worked state key).due) × (new ≡ (worked state key).state)
GivesKey state key (Err why) given new = (why ≡ faults.OutOfMemory) × (given ≡ []) × ((worked state key).answer ≡ keyed.Sent)

-- Where memory was refused, which only a key that sends takes, the session is over with that.
abbrev pub PressesKey : TerminalState → List ℕ → Strike → Result Pressed RunFault → List ℕ → Talk TerminalState → Type 0
PressesKey state left key (Ok answer) given new =
    (answer ≡ (worked state key).answer) × (given ≡ (worked state key).due) × (new ≡ stands (waits (worked state key).state left))
PressesKey state left key (Err why) given new =
    (why ≡ faults.OutOfMemory) × (given ≡ []) × ((worked state key).answer ≡ keyed.Sent) × (new ≡ starved)

abbrev pub Unchanged : Talk TerminalState → Result Pressed RunFault → Result Pressed RunFault → List ℕ → Talk TerminalState → Type 0
Unchanged old word result given new = (result ≡ word) × (given ≡ []) × (new ≡ old)

-- a session that failed answers its fault to a key too, and stays as it was left
abbrev pub Presses : Talk TerminalState → Strike → Result Pressed RunFault → List ℕ → Talk TerminalState → Type 0
Presses (stands (waits state left)) key result given new = PressesKey state left key result given new
Presses (stands (is_over end)) key result given new = Unchanged (stands (is_over end)) (Ok keyed.Ignored) result given new
Presses (stands (has_failed why state)) key result given new = Unchanged (stands (has_failed why state)) (Err why) result given new
Presses (stands (is_at_fault fault state)) key result given new =
    Unchanged (stands (is_at_fault fault state)) (Err (faults.Wire fault)) result given new
Presses starved key result given new = Unchanged starved (Err faults.OutOfMemory) result given new

-- ---- what can be asked

-- a session, and the counts that were told last
pub record Worked : Type 0 where
  pub talk : Talk TerminalState
  pub told : Arrived

abbrev pub no_arrival : Arrived
no_arrival = record { taken = 0; refused = 0; passed = 0; ignored = 0; answers = 0 }

abbrev pub new_worked : Device → Bool → Bool → Worked
new_worked device enhanced responses =
    record { talk = stands (waits (keeping_terminal device enhanced responses) []); told = no_arrival }

abbrev pub tolerant_worked : Device → Bool → Bool → Worked
tolerant_worked device enhanced responses =
    record { talk = stands (waits (tolerant_terminal device enhanced responses) []); told = no_arrival }

abbrev pub counts_of : TerminalState → Arrived
counts_of state =
    record { taken = state.taken; refused = state.refused; passed = state.passed; ignored = state.ignored; answers = state.answers }

abbrev pub since : Arrived → Arrived → Arrived
since now before = record {
  taken = now.taken - before.taken;
  refused = now.refused - before.refused;
  passed = now.passed - before.passed;
  ignored = now.ignored - before.ignored;
  answers = now.answers - before.answers;
}

-- This is what a session has to which memory was not refused. One that failed has what it was left with.
abbrev pub OfStanding : {A : Type 0} → (TerminalState → A) → Talk TerminalState → A → Type 0
OfStanding part (stands standing) value = value ≡ part (state_of standing)
OfStanding part starved value = Unit {0}

-- a session that failed agreed on nothing
abbrev pub agreed_in : Talk TerminalState → Option Agreed
agreed_in (stands (waits state left)) = core_agreed state.core
agreed_in talk = None

-- the name of the logical unit, which a session has that is ready by TN3270E
abbrev pub lu_name_in : Talk TerminalState → List ℕ
lu_name_in (stands (waits state left)) = name_under (core_agreed state.core) state.lu_name
lu_name_in talk = []

-- the records of the screen that is shown; none past the limit
abbrev pub records_kept : Option Keeping → Option (List Kept)
records_kept None = None
records_kept (Some keeping) = if keeping.is_past_limit then None else Some keeping.records

-- a terminal's session is never over by itself
abbrev pub IsNotOver : Talk TerminalState → Type 0
IsNotOver (stands (is_over end)) = ⊥
IsNotOver talk = Unit {0}

-- ---- a tolerant terminal

-- whether a session that waits is of one
abbrev pub tolerates : Talk TerminalState → Bool
tolerates (stands (waits state left)) = is_tolerant state.core
tolerates talk = false

-- records pass after it, and didn't before
abbrev pub begins_between : Talk TerminalState → Talk TerminalState → Bool
begins_between old new = not (is_some (agreed_in old)) && is_some (agreed_in new)

-- Behind a byte by which records begin to pass, the data that is open is ended as a record, and so dropped.
abbrev pub Ends : Bool → Result Progress RunFault → List ℕ → Talk TerminalState → Result Progress RunFault → List ℕ → Talk TerminalState → Type 0
Ends false first due mid result given new = (result ≡ first) × (given ≡ due) × (new ≡ mid)
Ends true first due mid result given new = (more : List ℕ) × Takes heard_act mid (255 ∷ 239 ∷ []) result more new × (given ≡ due ++ more)

abbrev pub TakesByte : Talk TerminalState → ℕ → Result Progress RunFault → List ℕ → Talk TerminalState → Type 0
TakesByte old byte result given new =
    (first : Result Progress RunFault) × (due : List ℕ) × (mid : Talk TerminalState)
    × Takes heard_act old (byte ∷ []) first due mid × Ends (begins_between old mid) first due mid result given new

-- what comes after a byte that was taken so: no more after a fault
abbrev pub GoesOnBy : (Talk TerminalState → Result Progress RunFault → List ℕ → Talk TerminalState → Type 0)
    → Result Progress RunFault → List ℕ → Talk TerminalState → Result Progress RunFault → List ℕ → Talk TerminalState → Type 0
GoesOnBy Later (Ok told) due mid result given new = (more : List ℕ) × Later mid result more new × (given ≡ due ++ more)
GoesOnBy Later (Err why) due mid result given new = (result ≡ Err why) × (given ≡ due) × (new ≡ mid)

-- a tolerant session takes bytes: each in turn, so that how they are cut doesn't matter
abbrev pub Tolerates : List ℕ → Talk TerminalState → Result Progress RunFault → List ℕ → Talk TerminalState → Type 0
Tolerates [] old result given new = (result ≡ Ok More) × (given ≡ []) × (new ≡ old)
Tolerates (byte ∷ bytes) old result given new =
    (first : Result Progress RunFault) × (due : List ℕ) × (mid : Talk TerminalState)
    × TakesByte old byte first due mid × GoesOnBy (Tolerates bytes) first due mid result given new

abbrev pub TakesAs : Bool → Talk TerminalState → List ℕ → Result Progress RunFault → List ℕ → Talk TerminalState → Type 0
TakesAs false old bytes result given new = Takes heard_act old bytes result given new
TakesAs true old bytes result given new = Tolerates bytes old result given new

-- a session takes bytes, as a terminal of its manner
abbrev pub TerminalTakes : Talk TerminalState → List ℕ → Result Progress RunFault → List ℕ → Talk TerminalState → Type 0
TerminalTakes old bytes result given new = TakesAs (tolerates old) old bytes result given new

-- ---- whether the screen takes input

-- it has a field, the keyboard doesn't wait for the host, and the cursor isn't at 0, where a host leaves it that places none
abbrev pub takes_input : Picture → Bool
takes_input v = not (is_waiting v.lock) && (not (v.cursor == 0) && is_some (attribute_before v.cells v.cursor))

abbrev pub takes_input_in : Talk TerminalState → Bool
takes_input_in (stands (waits state left)) = is_some (core_agreed state.core) && takes_input state.terminal
takes_input_in talk = false
