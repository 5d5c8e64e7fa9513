-- Strokes that are keys, without insert mode.
use Rattle.std.specs.Prelude.{◌≡◌, Bool, false, List, map}
use Rattle.ds_keys.specs.declared.key.Key.{Key}
use Rattle.ds_strokes.specs.declared.stroke.Stroke.TheVariants as stroke
use Rattle.tn_wire.specs.Stream.{Told}
use Rattle.tn_cores.specs.declared.device.Device.{Device}
use Rattle.tn_session.specs.declared.terminal_state.TerminalState.{TerminalState}
use Rattle.tn_session.specs.Runs.{Course, goes, finishes, fails, Log, log_of}
use Rattle.tn_session.specs.Strikes.{Strike, by_key, by_stroke}
use Rattle.tn_session.specs.TerminalLog.{TerminalRunning, terminal_start, terminal_act}
use Rattle.tn_session.specs.TerminalTalk.{worked}

-- a key, struck
abbrev pub as_stroke : Strike → Strike
as_stroke (by_key key) = by_stroke (stroke.Key key)
as_stroke (by_stroke stroke) = by_stroke stroke

-- the key does to a terminal what it does pressed
abbrev pub StrokesAreKeys : Type 0
StrokesAreKeys = (state : TerminalState) (key : Key) → state.inserts ≡ false → worked state (by_stroke (stroke.Key key)) ≡ worked state (by_key key)

-- the same run, whose keys that are left are struck
abbrev pub striking : TerminalRunning → TerminalRunning
striking running = record { state = running.state; keys = map as_stroke running.keys }

abbrev pub striking_course : Course TerminalRunning → Course TerminalRunning
striking_course (goes running) = goes (striking running)
striking_course (finishes running) = finishes (striking running)
striking_course (fails why running) = fails why (striking running)

abbrev pub striking_log : Log TerminalRunning → Log TerminalRunning
striking_log log = record { due = log.due; course = striking_course log.course }

-- A run over a line that strikes keys alone has the log of the run that presses them: the same is due, and it stands alike.
abbrev pub RunsOfKeysAgree : Type 0
RunsOfKeysAgree =
    (device : Device) (enhanced responses : Bool) (keys : List Key) (events : List Told)
    → log_of terminal_act (terminal_start device enhanced responses (map (λ key. by_stroke (stroke.Key key)) keys)) events
    ≡ striking_log (log_of terminal_act (terminal_start device enhanced responses (map by_key keys)) events)
