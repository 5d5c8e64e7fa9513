-- What each call on a session that is held leaves: of its handle the session and what is due, which a null handle has none of, and a status: 0, or 1 where
-- the session failed; 2 where the handle is null, or there is no such device or key; 4 where a request for memory was refused.
use Rattle.std.specs.Prelude.{◌≡◌, ◌⊎◌, ℕ, ℤ, pos, Bool, true, false, List, [], ◌++◌, Option, Some, None, Result, Ok, Err, length, nat_le, if◌then◌else◌}
use Rattle.ds_keys.specs.declared.key.Key.{Key}
use Rattle.ds_screen.specs.Picture.{Picture}
use Rattle.cli_sessions.specs.FaultNumber.{fault_number}
use Rattle.terminal_calls.specs.Left.{laid_over}
use Rattle.terminal_calls.specs.Numbers.{key_at}
use Rattle.tn_cores.specs.declared.device.Device.{Device}
use Rattle.tn_cores.specs.declared.device.ScreenModel.{ScreenModel}
use Rattle.tn_cores.specs.declared.device.ScreenModel.TheVariants.{Two, Three, Four, Five}
use Rattle.tn_cores.specs.declared.session.Agreed.{Agreed}
use Rattle.tn_cores.specs.Devices.{device_of}
use Rattle.tn_session.specs.declared.fault.RunFault.{RunFault}
use Rattle.tn_session.specs.declared.fault.RunFault.TheVariants as faults
use Rattle.tn_session.specs.declared.pressed.Pressed.{Pressed}
use Rattle.tn_session.specs.declared.pressed.Pressed.TheVariants as keyed
use Rattle.tn_session.specs.declared.progress.Progress.{Progress}
use Rattle.tn_session.specs.Strikes.{by_key}
use Rattle.tn_session.specs.TerminalTalk.{Worked, OfStanding, Presses, TerminalTakes, agreed_in, new_worked, takes_input_in, tolerant_worked}
use Rattle.session_calls.specs.declared.agreed.SessionStatus.{SessionStatus}
use Rattle.session_calls.specs.Lines.{Line}

-- ---- a session is made

abbrev pub begun_worked : Bool → Device → Bool → Bool → Worked
begun_worked true device enhanced responses = tolerant_worked device enhanced responses
begun_worked false device enhanced responses = new_worked device enhanced responses

-- nothing is due before the host says something
abbrev pub begun : Bool → Device → Bool → Bool → Line
begun tolerant device enhanced responses = record { worked = begun_worked tolerant device enhanced responses; due = [] }

abbrev pub HoldsNew : List ℕ → Bool → Bool → Bool → Option Line → Option Line → ℤ → Type 0
HoldsNew name enhanced responses tolerant old new status =
    ((device : Device) × (device_of name ≡ Some device) × (status ≡ pos 0) × (new ≡ Some (begun tolerant device enhanced responses)))
    ⊎ (((status ≡ pos 2) × (new ≡ old) × (device_of name ≡ None))
    ⊎ ((status ≡ pos 4) × (new ≡ old)))

-- ---- bytes of the host, and keys

abbrev pub fault_code : RunFault → ℕ
fault_code faults.OutOfMemory = 4
fault_code why = 1

abbrev pub taken_code : Result Progress RunFault → ℕ
taken_code (Ok progress) = 0
taken_code (Err why) = fault_code why

-- what is due after it is added to what was due
abbrev pub IsTaken : List ℕ → Line → Line → Result Progress RunFault → Type 0
IsTaken bytes v w result =
    (given : List ℕ) × (w.due ≡ v.due ++ given) × TerminalTakes v.worked.talk bytes result given w.worked.talk
    × (w.worked.told ≡ v.worked.told)

abbrev pub HoldsTaken : List ℕ → Option Line → Option Line → ℤ → Type 0
HoldsTaken bytes old new status =
    ((v : Line) × (w : Line) × (result : Result Progress RunFault) × (old ≡ Some v) × (new ≡ Some w) × (status ≡ pos (taken_code result))
    × IsTaken bytes v w result)
    ⊎ ((status ≡ pos 2) × (new ≡ old) × (old ≡ None))

abbrev pub keyed_code : Pressed → ℕ
keyed_code keyed.Done = 0
keyed_code keyed.Inhibited = 1
keyed_code keyed.Ignored = 2
keyed_code keyed.Sent = 3

abbrev pub pressed_code : Result Pressed RunFault → ℕ
pressed_code (Ok answer) = 0
pressed_code (Err why) = fault_code why

-- the number of what a key did; where the session failed it stays
abbrev pub pressed_told : Result Pressed RunFault → ℕ → ℕ
pressed_told (Ok answer) was = keyed_code answer
pressed_told (Err why) was = was

abbrev pub IsPressed : Key → Line → Line → Result Pressed RunFault → Type 0
IsPressed key v w result =
    (given : List ℕ) × (w.due ≡ v.due ++ given) × Presses v.worked.talk (by_key key) result given w.worked.talk
    × (w.worked.told ≡ v.worked.told)

abbrev pub HoldsPressed : ℕ → ℕ → Option Line → Option Line → ℕ → ℕ → ℤ → Type 0
HoldsPressed kind code old new was pressed status =
    ((key : Key) × (v : Line) × (w : Line) × (result : Result Pressed RunFault) × (key_at kind code ≡ Some key) × (old ≡ Some v) × (new ≡ Some w)
    × (status ≡ pos (pressed_code result)) × (pressed ≡ pressed_told result was) × IsPressed key v w result)
    ⊎ ((status ≡ pos 2) × (new ≡ old) × (pressed ≡ was) × ((key_at kind code ≡ None) ⊎ (old ≡ None)))

-- ---- what is due

-- it is given out where it fits, and else stays due
abbrev pub due_after : Line → List ℕ → Line
due_after v out = record { worked = v.worked; due = if nat_le (length v.due) (length out) then [] else v.due }

abbrev pub HoldsDue : Option Line → Option Line → List ℕ → List ℕ → ℕ → ℤ → Type 0
HoldsDue old new was out needed status =
    ((v : Line) × (old ≡ Some v) × (new ≡ Some (due_after v was)) × (status ≡ pos 0) × (out ≡ laid_over was v.due) × (needed ≡ length v.due))
    ⊎ ((status ≡ pos 2) × (new ≡ old) × (out ≡ was) × (needed ≡ 0) × (old ≡ None))

-- ---- why it failed

abbrev pub fault_text : Result Progress RunFault → List ℕ
fault_text (Ok progress) = []
fault_text (Err why) = fault_number why

-- by what it answers to no bytes
abbrev pub HoldsFault : Option Line → Option Line → List ℕ → List ℕ → ℕ → ℤ → Type 0
HoldsFault old new was out needed status =
    ((v : Line) × (w : Line) × (result : Result Progress RunFault) × (old ≡ Some v) × (new ≡ Some w) × (status ≡ pos 0) × IsTaken [] v w result
    × (out ≡ laid_over was (fault_text result)) × (needed ≡ length (fault_text result)))
    ⊎ ((status ≡ pos 2) × (new ≡ old) × (out ≡ was) × (needed ≡ 0) × (old ≡ None))

-- ---- what is read

abbrev pub model_number : ScreenModel → ℕ
model_number Two = 2
model_number Three = 3
model_number Four = 4
model_number Five = 5

abbrev pub agreed_told : Option Agreed → Bool → SessionStatus
agreed_told None input = record { ready = false; enhanced = false; responses = false; takes_input = input; extended = false; model = 0 }
agreed_told (Some agreed) input = record {
  ready = true;
  enhanced = agreed.enhanced;
  responses = agreed.responses;
  takes_input = input;
  extended = agreed.device.extended;
  model = model_number agreed.device.model;
}

abbrev pub TellsAgreed : Option Line → SessionStatus → SessionStatus → ℤ → Type 0
TellsAgreed held was now status =
    ((v : Line) × (held ≡ Some v) × (status ≡ pos 0) × (now ≡ agreed_told (agreed_in v.worked.talk) (takes_input_in v.worked.talk)))
    ⊎ ((status ≡ pos 2) × (now ≡ was) × (held ≡ None))

-- the session's screen, also that of one which failed; where memory was refused to it, it is left open
abbrev pub TellsScreen : Option Line → Option Picture → Option Picture → ℤ → Type 0
TellsScreen held old new status =
    ((v : Line) × (screen : Picture) × (held ≡ Some v) × OfStanding (λ state. state.terminal) v.worked.talk screen × (status ≡ pos 0)
    × (new ≡ Some screen))
    ⊎ (((status ≡ pos 2) × (new ≡ old) × (held ≡ None))
    ⊎ ((status ≡ pos 4) × (new ≡ old)))
