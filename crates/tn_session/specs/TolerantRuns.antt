-- What a tolerant terminal does over a line: it takes pieces of the host's stream, and its operator presses keys where the screen
-- takes input.
use Rattle.std.specs.Prelude.{ℕ, ◌≡◌, ◌+◌, ◌⊎◌, ◌==◌, Bool, true, false, ◌&&◌, List, [], ◌∷◌, ◌++◌, length, Option, Some, None, Result, Ok, Err}
use Rattle.tn_cores.specs.declared.device.Device.{Device}
use Rattle.tn_cores.specs.declared.session.SessionFault.TheVariants.{LineFault, TooManyReads}
use Rattle.tn_session.specs.declared.arrived.Arrived.{Arrived}
use Rattle.tn_session.specs.declared.fault.RunFault.{RunFault}
use Rattle.tn_session.specs.declared.fault.RunFault.TheVariants as faults
use Rattle.tn_session.specs.declared.pressed.Pressed.{Pressed}
use Rattle.tn_session.specs.declared.pressed.Pressed.TheVariants as keyed
use Rattle.tn_session.specs.declared.progress.Progress.{Progress}
use Rattle.tn_session.specs.declared.report.RunEnd.{RunEnd}
use Rattle.tn_session.specs.declared.report.RunEnd.TheVariants.{KeysUsed, Closed}
use Rattle.tn_session.specs.declared.report.TolerantReport.{TolerantReport}
use Rattle.tn_session.specs.declared.stop.Stop.{Stop}
use Rattle.tn_session.specs.declared.stop.Stop.TheVariants.{Ended, ReadFailed, WriteFailed}
use Rattle.tn_session.specs.declared.terminal_state.TerminalState.{TerminalState}
use Rattle.tn_session.specs.Ran.{PassedOver}
use Rattle.tn_session.specs.Strikes.{Strike}
use Rattle.tn_session.specs.Talk.{Talk}
use Rattle.tn_session.specs.TerminalLog.{one_more}
use Rattle.tn_session.specs.TerminalTalk.{Presses, TerminalTakes, takes_input_in, tolerant_worked, counts_of, since, no_arrival, OfStanding}
use Rattle.tn_session.specs.Wire.{WireState}

-- how the work of a run stands: the session, the keys that are left, and how many were inhibited
pub record Working : Type 0 where
  pub talk : Talk TerminalState
  pub keys : List Strike
  pub inhibited : ℕ

-- ---- keys

-- one more that was inhibited
abbrev pub counted : ℕ → Result Pressed RunFault → ℕ
counted count (Ok keyed.Inhibited) = one_more count
counted count (Ok keyed.Done) = count
counted count (Ok keyed.Ignored) = count
counted count (Ok keyed.Sent) = count
counted count (Err why) = count

-- what follows a call that gave this, and left the work so: no more after a fault
abbrev pub Follows : {A B : Type 0} → (Working → List ℕ → Working → Result B RunFault → Type 0)
    → Result A RunFault → List ℕ → Working → List ℕ → Working → Result B RunFault → Type 0
Follows Later (Ok done) first mid given new result = (more : List ℕ) × Later mid more new result × (given ≡ first ++ more)
Follows Later (Err why) first mid given new result = (given ≡ first) × (new ≡ mid) × (result ≡ Err why)

-- nothing more is done
abbrev pub Rests : Working → List ℕ → Working → Result (Unit {0}) RunFault → Type 0
Rests old given new result = (given ≡ []) × (new ≡ old) × (result ≡ Ok tt)

-- keys are pressed one after the other, while the screen takes input
abbrev pub PressesOn : Bool → (Working → List ℕ → Working → Result (Unit {0}) RunFault → Type 0)
    → Talk TerminalState → Strike → List Strike → ℕ → List ℕ → Working → Result (Unit {0}) RunFault → Type 0
PressesOn false Later talk key keys inhibited given new result =
    Rests (record { talk = talk; keys = key ∷ keys; inhibited = inhibited }) given new result
PressesOn true Later talk key keys inhibited given new result =
    (pressed : Result Pressed RunFault) × (first : List ℕ) × (mid : Talk TerminalState) × Presses talk key pressed first mid
    × Follows Later pressed first (record { talk = mid; keys = keys; inhibited = counted inhibited pressed }) given new result

abbrev pub PressesAll : List Strike → Talk TerminalState → ℕ → List ℕ → Working → Result (Unit {0}) RunFault → Type 0
PressesAll [] talk inhibited given new result = Rests (record { talk = talk; keys = []; inhibited = inhibited }) given new result
PressesAll (key ∷ keys) talk inhibited given new result =
    PressesOn (takes_input_in talk) (λ w. PressesAll keys w.talk w.inhibited) talk key keys inhibited given new result

-- ---- pieces

-- the run is over where the screen took input and no key is left
abbrev pub is_over_with : Talk TerminalState → Working → Bool
is_over_with opened work = takes_input_in opened && (length work.keys == 0)

abbrev pub PressesThen : Talk TerminalState → Result (Unit {0}) RunFault → Working → Working → Result Bool RunFault → Type 0
PressesThen opened (Ok done) mid new result = (new ≡ mid) × (result ≡ Ok (is_over_with opened mid))
PressesThen opened (Err why) mid new result = (new ≡ mid) × (result ≡ Err why)

-- keys are pressed at a session that took a piece
abbrev pub PressesAfter : Working → List ℕ → Working → Result Bool RunFault → Type 0
PressesAfter old given new result =
    (pressed : Result (Unit {0}) RunFault) × (mid : Working) × PressesAll old.keys old.talk old.inhibited given mid pressed
    × PressesThen old.talk pressed mid new result

-- a piece is taken, and then keys are pressed: whether the run is over
abbrev pub TakesTurn : Working → List ℕ → List ℕ → Working → Result Bool RunFault → Type 0
TakesTurn old piece given new result =
    (told : Result Progress RunFault) × (first : List ℕ) × (mid : Talk TerminalState) × TerminalTakes old.talk piece told first mid
    × Follows PressesAfter told first (record old { talk = mid }) given new result

-- ---- a run, over the pieces that were read

abbrev pub TurnsFollow : (Working → List ℕ → Working → Result Bool RunFault → Type 0) → List (List ℕ)
    → Result Bool RunFault → List ℕ → Working → List ℕ → Working → Result Bool RunFault → Type 0
TurnsFollow Later pieces (Ok false) first mid given new result = (more : List ℕ) × Later mid more new result × (given ≡ first ++ more)
TurnsFollow Later pieces (Ok true) first mid given new result = (pieces ≡ []) × (given ≡ first) × (new ≡ mid) × (result ≡ Ok true)
TurnsFollow Later pieces (Err why) first mid given new result = (pieces ≡ []) × (given ≡ first) × (new ≡ mid) × (result ≡ Err why)

-- whether it is over at the end of these, or why it fails there
abbrev pub TakesTurns : List (List ℕ) → Working → List ℕ → Working → Result Bool RunFault → Type 0
TakesTurns [] old given new result = (given ≡ []) × (new ≡ old) × (result ≡ Ok false)
TakesTurns (piece ∷ pieces) old given new result =
    (told : Result Bool RunFault) × (first : List ℕ) × (mid : Working) × TakesTurn old piece first mid told
    × TurnsFollow (TakesTurns pieces) pieces told first mid given new result

abbrev pub begun_work : Device → List Strike → Working
begun_work device keys = record { talk = (tolerant_worked device true true).talk; keys = keys; inhibited = 0 }

-- ---- over a line

-- the bytes of pieces, one after the other
abbrev pub joined : List (List ℕ) → List ℕ
joined [] = []
joined (piece ∷ pieces) = piece ++ joined pieces

-- it took these pieces and gave these bytes, which went over the line
pub record WorkedOver (device : Device) (keys : List Strike) (old new : WireState) (stop : Option Stop) (result : Result Bool RunFault) (end : Working) : Type 0 where
  pub pieces : List (List ℕ)
  pub given : List ℕ
  pub turns : TakesTurns pieces (begun_work device keys) given end result
  pub passed : PassedOver old new (joined pieces) given stop

-- a front of the bytes went over the line, and then a write failed
pub record WorkedPart (device : Device) (keys : List Strike) (old new : WireState) : Type 0 where
  pub pieces : List (List ℕ)
  pub given : List ℕ
  pub part : List ℕ
  pub lost : List ℕ
  pub result : Result Bool RunFault
  pub end : Working
  pub turns : TakesTurns pieces (begun_work device keys) given end result
  pub cut : given ≡ part ++ lost
  pub passed : PassedOver old new (joined pieces) part (Some WriteFailed)

abbrev pub arrived_in : TolerantReport → Arrived → Type 0
arrived_in report arrived = (report.answers ≡ arrived.answers) × (report.passed ≡ arrived.passed) × (report.refused ≡ arrived.refused) × (report.ignored ≡ arrived.ignored)

-- the report counts what the session did
abbrev pub Counts : TolerantReport → Working → Type 0
Counts report work =
    (report.inhibited ≡ work.inhibited)
    × ((arrived : Arrived) × OfStanding (λ state. since (counts_of state) no_arrival) work.talk arrived × arrived_in report arrived)

-- how a run ends whose line gave nothing
abbrev pub StopsSo : Option Stop → Talk TerminalState → ℕ → Result TolerantReport RunFault → Type 0
StopsSo (Some Ended) talk inhibited (Ok report) =
    (report.end ≡ Closed) × ((keys : List Strike) → Counts report (record { talk = talk; keys = keys; inhibited = inhibited }))
StopsSo (Some Ended) talk inhibited (Err why) = ⊥
StopsSo stop talk inhibited result = result ≡ Err (faults.Session LineFault)

abbrev pub EndsBy : RunEnd → Device → List Strike → WireState → WireState → Working → Type 0
EndsBy KeysUsed device keys old new work = WorkedOver device keys old new None (Ok true) work
EndsBy Closed device keys old new work = WorkedOver device keys old new (Some Ended) (Ok false) work

-- a fault of the line: a read, or a write that took a front of the bytes; 1,000,000 reads; memory that was refused at the start
abbrev pub FailsByLine : RunFault → Device → List Strike → WireState → WireState → Type 0
FailsByLine (faults.Session LineFault) device keys old new =
    ((work : Working) × WorkedOver device keys old new (Some ReadFailed) (Ok false) work) ⊎ WorkedPart device keys old new
FailsByLine (faults.Session TooManyReads) device keys old new =
    (work : Working) × WorkedOver device keys old new None (Ok false) work × (new.reads ≡ old.reads + 1000000)
FailsByLine faults.OutOfMemory device keys old new = new ≡ old
FailsByLine why device keys old new = ⊥

-- or the session's, at a piece or at a key
abbrev pub FailsBy : RunFault → Device → List Strike → WireState → WireState → Type 0
FailsBy why device keys old new =
    ((work : Working) × WorkedOver device keys old new None (Err why) work) ⊎ FailsByLine why device keys old new

abbrev pub TolerantRan : Device → List Strike → WireState → Result TolerantReport RunFault → WireState → Type 0
TolerantRan device keys old (Ok report) new = (work : Working) × EndsBy report.end device keys old new work × Counts report work
TolerantRan device keys old (Err why) new = FailsBy why device keys old new
