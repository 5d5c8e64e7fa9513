-- A terminal that somebody works: what is heard, and the keys that are pressed, in turn.
use Rattle.std.specs.Prelude.{ℕ, ◌≡◌, List, [], ◌∷◌, ◌++◌, Result}
use Rattle.tn_wire.specs.Stream.{Told}
use Rattle.tn_session.specs.declared.fault.RunFault.{RunFault}
use Rattle.tn_session.specs.declared.pressed.Pressed.{Pressed}
use Rattle.tn_session.specs.declared.progress.Progress.{Progress}
use Rattle.tn_session.specs.declared.terminal_state.TerminalState.{TerminalState}
use Rattle.tn_session.specs.OneLog.{Standing, waits}
use Rattle.tn_session.specs.Runs.{Course, goes, finishes, fails, Log, going, log_on, log_of}
use Rattle.tn_session.specs.Talk.{Talk, stands, Takes}
use Rattle.tn_session.specs.Strikes.{Strike}
use Rattle.tn_session.specs.TerminalLog.{TerminalRunning, terminal_act}
use Rattle.tn_session.specs.TerminalTalk.{heard_act, unkeyed, worked, Presses}

-- ---- calls

pub data Act : Type 0 where
  heard : List ℕ → Act
  keyed : Strike → Act

-- a session is told these acts by calls, and gives these bytes in all
abbrev pub Works : Talk TerminalState → List Act → List ℕ → Talk TerminalState → Type 0
Works old [] given new = (given ≡ []) × (new ≡ old)
Works old (heard bytes ∷ acts) given new =
    (result : Result Progress RunFault) × (first : List ℕ) × (mid : Talk TerminalState) × (rest : List ℕ)
    × Takes heard_act old bytes result first mid × Works mid acts rest new × (given ≡ first ++ rest)
Works old (keyed key ∷ acts) given new =
    (result : Result Pressed RunFault) × (first : List ℕ) × (mid : Talk TerminalState) × (rest : List ℕ)
    × Presses old key result first mid × Works mid acts rest new × (given ≡ first ++ rest)

-- what is heard before the first key
abbrev pub heard_first : List Act → List ℕ
heard_first [] = []
heard_first (heard bytes ∷ acts) = bytes ++ heard_first acts
heard_first (keyed key ∷ acts) = []

-- each key, and what is heard after it before the next
abbrev pub keyed_then : List Act → List (Strike × List ℕ)
keyed_then [] = []
keyed_then (heard bytes ∷ acts) = keyed_then acts
keyed_then (keyed key ∷ acts) = (key, heard_first acts) ∷ keyed_then acts

-- the same keys, and between two of them the same bytes, however these are cut
abbrev pub AreAlike : List Act → List Act → Type 0
AreAlike acts others = (heard_first acts ≡ heard_first others) × (keyed_then acts ≡ keyed_then others)

-- Two terminals at the beginning of a session that are told alike acts gave the same bytes and stand alike, so that they show
-- the same picture; where memory was refused to neither.
abbrev pub WorkAgrees : Type 0
WorkAgrees =
    (state : TerminalState) (acts others : List Act) (given more : List ℕ) (new other : Standing TerminalState) → AreAlike acts others
    → Works (stands (waits state [])) acts given (stands new) → Works (stands (waits state [])) others more (stands other)
    → (given ≡ more) × (new ≡ other)

-- ---- the same over events

pub data Deed : Type 0 where
  came : Told → Deed
  pressed : Strike → Deed

-- the log of a terminal that is worked
abbrev pub worked_log : TerminalState → List Deed → Log TerminalState
worked_log state [] = going [] state
worked_log state (came event ∷ deeds) =
    log_on (heard_act state event).due (heard_act state event).course (λ next. worked_log next deeds)
worked_log state (pressed key ∷ deeds) =
    log_on (worked state key).due (goes (worked state key).state) (λ next. worked_log next deeds)

abbrev pub events_in : List Deed → List Told
events_in [] = []
events_in (came event ∷ deeds) = event ∷ events_in deeds
events_in (pressed key ∷ deeds) = events_in deeds

abbrev pub keys_in : List Deed → List Strike
keys_in [] = []
keys_in (came event ∷ deeds) = keys_in deeds
keys_in (pressed key ∷ deeds) = key ∷ keys_in deeds

-- the keys that a run has left
abbrev pub AreLeft : List Strike → Course TerminalRunning → Type 0
AreLeft left (goes running) = left ≡ running.keys
AreLeft left (finishes running) = left ≡ running.keys
AreLeft left (fails why running) = left ≡ running.keys

-- The log of a run over a line that presses a list of keys is that of a terminal which is worked so: it hears the events up to
-- the one that ends the run, and is pressed the keys in turn up to those that are left.
pub record IsWorked (running : TerminalRunning) (events : List Told) (log : Log TerminalRunning) : Type 0 where
  pub deeds : List Deed
  pub more : List Told
  pub left : List Strike
  pub hears : events ≡ events_in deeds ++ more
  pub keys : running.keys ≡ keys_in deeds ++ left
  pub are_left : AreLeft left log.course
  pub log_is : worked_log running.state deeds ≡ unkeyed log

abbrev pub RunsAreWorked : Type 0
RunsAreWorked = (running : TerminalRunning) (events : List Told) → IsWorked running events (log_of terminal_act running events)
