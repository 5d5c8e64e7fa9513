-- When a wait is over, and what becomes of it: which reads it makes, and how it ends.
use Rattle.std.specs.Prelude.{◌≡◌, ℕ, ◌==◌, Bool, true, false, not, ◌&&◌, is_some, unwrap_or, List, [], ◌∷◌, ◌++◌, codes, Option, Some, None, Result, Ok, Err, if◌then◌else◌}
use Rattle.script_keys.specs.Actions.{Action, other}
use Rattle.script_keys.specs.Faults.{Fault}
use Rattle.script_requests.specs.declared.wait.Awaited.{Awaited}
use Rattle.script_requests.specs.declared.wait.Awaited.TheVariants.{InputField, Mode3270, NvtMode, Output, Unlock, Disconnect, Seconds}
use Rattle.script_requests.specs.declared.wait.Wait.{Wait}
use Rattle.script_requests.specs.declared.wait.WaitFault.{WaitFault}
use Rattle.script_requests.specs.declared.wait.WaitFault.TheVariants.{Parameter}
use Rattle.script_requests.specs.Waits.{read_wait, wait_fault_text}
use Rattle.script_screens.specs.declared.lines.Outcome.TheVariants as outcomes
use Rattle.script_screens.specs.Lines.{data_lines}
use Rattle.tn_session.specs.TerminalTalk.{OfStanding, agreed_in, takes_input_in}
use Rattle.cli_scripts.specs.Answers.{printed_text}
use Rattle.cli_scripts.specs.Desks.{Worked, is_waiting}
use Rattle.cli_scripts.specs.Kinds.{kind_of}
use Rattle.cli_scripts.specs.declared.came.Came.{Came}
use Rattle.cli_scripts.specs.declared.came.Came.TheVariants as came
use Rattle.cli_scripts.specs.declared.came.Need.{Need}
use Rattle.cli_scripts.specs.declared.came.Need.TheVariants.{Arrived, Bytes, BytesWithin, Pause}
use Rattle.cli_scripts.specs.declared.doing.Doing.{Doing}
use Rattle.cli_scripts.specs.declared.doing.Doing.TheVariants.{Arriving, Waiting}
use Rattle.cli_scripts.specs.declared.doing.Step.{Step}
use Rattle.cli_scripts.specs.declared.doing.Step.TheVariants.{Ended, Waits}
use Rattle.cli_scripts.specs.declared.kind.Kind.{Kind}
use Rattle.cli_scripts.specs.declared.kind.Kind.TheVariants as kinds
use Rattle.cli_scripts.specs.declared.waiting.Becomes.{Becomes}
use Rattle.cli_scripts.specs.declared.waiting.Becomes.TheVariants.{Over, Fails, Awaits}
use Rattle.cli_scripts.specs.declared.waiting.Failure.{Failure}
use Rattle.cli_scripts.specs.declared.waiting.Failure.TheVariants.{NotConnected, Disconnected, TimedOut, NoTime}

-- ---- at a terminal that is connected

-- For an input field the screen has one, the keyboard doesn't wait, and the cursor isn't at 0: where it stands beyond that isn't looked at.
abbrev pub HoldsSo : Awaited → Worked → Bool → Type 0
HoldsSo InputField w held = held ≡ takes_input_in w.talk
HoldsSo Mode3270 w held = held ≡ is_some (agreed_in w.talk)
HoldsSo Output w held = held ≡ not w.was_read
HoldsSo Unlock w held = OfStanding (λ state. not (is_waiting state.terminal.lock)) w.talk held
HoldsSo NvtMode w held = held ≡ false
HoldsSo Disconnect w held = held ≡ false
HoldsSo Seconds w held = held ≡ false

-- bytes of the host are wanted, in so many thousandths of a second where that is a number but 0
abbrev pub wanted : Option ℕ → Bool → Need
wanted None begins = Bytes
wanted (Some limit) begins = if limit == 0 then Bytes else BytesWithin limit begins

-- it is over where what is waited for is so; else it makes one more read
abbrev pub on_line : Bool → Wait → Bool → Becomes
on_line true wait begins = Over
on_line false wait begins = Awaits (wanted wait.limit begins)

abbrev pub OnLine : Worked → Wait → Bool → Becomes → Type 0
OnLine w wait begins became = (held : Bool) × HoldsSo wait.what w held × (became ≡ on_line held wait begins)

-- ---- without a host

-- for a terminal whose screen was read since a record came, or wasn't
abbrev pub unread : Bool → Becomes
unread true = Fails NotConnected
unread false = Over

abbrev pub off_line : Awaited → Option ℕ → Bool → Becomes
off_line InputField limit was_read = Fails NotConnected
off_line NvtMode limit was_read = Fails NotConnected
off_line Mode3270 limit was_read = Fails NotConnected
off_line Output limit was_read = unread was_read
off_line Unlock limit was_read = Over
off_line Disconnect limit was_read = Over
off_line Seconds limit was_read = Awaits (Pause (unwrap_or limit 0))

-- ---- as it begins, and as it goes on

abbrev pub is_seconds : Awaited → Bool
is_seconds Seconds = true
is_seconds what = false

abbrev pub is_zero : Option ℕ → Bool
is_zero None = false
is_zero (Some limit) = limit == 0

-- seconds are waited for, and there are none
abbrev pub lacks_time : Wait → Bool
lacks_time wait = is_seconds wait.what && is_zero wait.limit

abbrev pub BeginsAt : Bool → Bool → Worked → Wait → Becomes → Type 0
BeginsAt true connected w wait became = became ≡ Fails NoTime
BeginsAt false true w wait became = OnLine w wait true became
BeginsAt false false w wait became = became ≡ off_line wait.what wait.limit w.was_read

abbrev pub Begins : Worked → Wait → Becomes → Type 0
Begins w wait became = BeginsAt (lacks_time wait) (is_some w.host) w wait became

-- as the line to the host ends
abbrev pub closed : Awaited → Becomes
closed InputField = Fails Disconnected
closed NvtMode = Fails Disconnected
closed Mode3270 = Fails Disconnected
closed Output = Fails Disconnected
closed Unlock = Over
closed Disconnect = Over
closed Seconds = Over

-- after bytes of the host, by which its line may have ended
abbrev pub HearsAt : Bool → Worked → Wait → Becomes → Type 0
HearsAt true w wait became = OnLine w wait false became
HearsAt false w wait became = became ≡ closed wait.what

-- as its time is over
abbrev pub late : Awaited → Becomes
late Seconds = Over
late what = Fails TimedOut

-- ---- what is said of it

abbrev pub failure_words : Failure → List ℕ
failure_words NotConnected = codes "Wait(): Not connected"
failure_words Disconnected = codes "Host disconnected"
failure_words TimedOut = codes "Wait(): Timed out"
failure_words NoTime = wait_fault_text Parameter

-- a failed one is one data line
abbrev pub FailsWith : List ℕ → Step → List ℕ → List ℕ → Type 0
FailsWith words step old new = (step ≡ Ended outcomes.Failed) × (new ≡ old ++ data_lines (printed_text words ∷ []))

abbrev pub Tells : Wait → Becomes → Step → List ℕ → List ℕ → Type 0
Tells wait Over step old new = (step ≡ Ended outcomes.Done) × (new ≡ old)
Tells wait (Fails why) step old new = FailsWith (failure_words why) step old new
Tells wait (Awaits need) step old new = (step ≡ Waits (Waiting wait) need) × (new ≡ old)

-- one that begins is told, and one that goes on after bytes of the host
abbrev pub BeginsTold : Worked → Wait → Step → List ℕ → List ℕ → Type 0
BeginsTold w wait step old new = (became : Becomes) × Begins w wait became × Tells wait became step old new

abbrev pub HearsTold : Worked → Wait → Step → List ℕ → List ℕ → Type 0
HearsTold w wait step old new = (became : Becomes) × HearsAt (is_some w.host) w wait became × Tells wait became step old new

-- arguments of Wait ask for one that begins, or are at fault
abbrev pub BeginsAsked : Result Wait WaitFault → Worked → Step → List ℕ → List ℕ → Type 0
BeginsAsked (Ok wait) w step old new = BeginsTold w wait step old new
BeginsAsked (Err fault) w step old new = FailsWith (wait_fault_text fault) step old new

-- an action that is a wait begins one
abbrev pub WaitsAs : Kind → List (List ℕ) → Worked → Step → List ℕ → List ℕ → Type 0
WaitsAs kinds.Waits arguments w step old new = BeginsAsked (read_wait arguments) w step old new
WaitsAs kind arguments w step old new = Unit {0}

abbrev pub ActsWait : Result Action Fault → Worked → Step → List ℕ → List ℕ → Type 0
ActsWait (Ok (other name arguments)) w step old new = WaitsAs (kind_of name) arguments w step old new
ActsWait action w step old new = Unit {0}

-- ---- what is under way, and goes on by what came

-- what has arrived is read once more
abbrev pub IsReadOn : Step → Type 0
IsReadOn step = step ≡ Waits Arriving Arrived

-- A wait makes its next read, or is over. What has arrived of the host is read until nothing more has, or the line ends.
abbrev pub HearsWait : Doing → Worked → Step → List ℕ → List ℕ → Type 0
HearsWait (Waiting wait) w step old new = HearsTold w wait step old new
HearsWait Arriving w step old new = (is_some w.host ≡ true → IsReadOn step) × (new ≡ old)
HearsWait doing w step old new = Unit {0}

abbrev pub ClosesWait : Doing → Step → List ℕ → List ℕ → Type 0
ClosesWait (Waiting wait) step old new = Tells wait (closed wait.what) step old new
ClosesWait Arriving step old new = (step ≡ Ended outcomes.Done) × (new ≡ old)
ClosesWait doing step old new = Unit {0}

abbrev pub TellsWait : Doing → Came → Step → List ℕ → List ℕ → Type 0
TellsWait (Waiting wait) came.Late step old new = Tells wait (late wait.what) step old new
TellsWait Arriving came.Nothing step old new = (step ≡ Ended outcomes.Done) × (new ≡ old)
TellsWait doing it step old new = Unit {0}

abbrev pub WaitsOn : Doing → Came → Worked → Step → List ℕ → List ℕ → Type 0
WaitsOn doing (came.Bytes bytes) w step old new = HearsWait doing w step old new
WaitsOn doing came.Closed w step old new = ClosesWait doing step old new
WaitsOn doing it w step old new = TellsWait doing it step old new
