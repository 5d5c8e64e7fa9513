-- One terminal's session, as a host holds it, and its lines.
use Rattle.std.specs.Prelude.{ℕ, ◌≡◌, ◌<◌, ◌^◌, ◌+◌, Bool, true, false, List, [], ◌∷◌, ◌++◌, codes, Option, Some, None, Result, Ok, Err}
use Rattle.std.specs.List.{flat_map}
use Rattle.std.specs.Fmt.{decimal}
use Rattle.hex.specs.Hex.{encode_upper}
use Rattle.order_lines.specs.Print.{hex_byte}
use Rattle.scr_layout.specs.Entry.{Declared}
use Rattle.scr_layout.specs.Layout.{Declaration}
use Rattle.scr_check.specs.FindingText.{name_at}
use Rattle.tn_cores.specs.declared.session.SessionFault.TheVariants.{LineFault}
use Rattle.tn_session.specs.declared.fault.RunFault.{RunFault}
use Rattle.tn_session.specs.declared.fault.RunFault.TheVariants.{Session, OutOfMemory}
use Rattle.tn_session.specs.declared.outcome.HostOutcome.{HostOutcome}
use Rattle.tn_session.specs.declared.stop.Stop.{Stop}
use Rattle.tn_session.specs.HostLog.{Outcome}
use Rattle.tn_session.specs.HostRan.{HostRan}
use Rattle.tn_session.specs.HostView.{outcome_view}
use Rattle.tn_session.specs.Wire.{WireState, Flushed, IsFlush}
use Rattle.cli_sessions.specs.FaultNumber.{fault_number}

-- ---- its lines

-- a field by its entry's name, and its characters' bytes
abbrev pub field_line : List Declared → ℕ × List ℕ → List ℕ
field_line entries field = name_at entries field.0 ++ (codes " " ++ (encode_upper field.1 ++ codes "\n"))

abbrev pub answered_lines : List Declared → ℕ → Outcome → List ℕ
answered_lines entries number outcome =
    codes "terminal " ++ (decimal number ++ (codes " aid " ++ (hex_byte outcome.aid ++ (codes "\n" ++ flat_map (field_line entries) outcome.fields))))

abbrev pub fault_line : ℕ → RunFault → List ℕ
fault_line number why = codes "terminal " ++ (decimal number ++ (codes " fault " ++ (fault_number why ++ codes "\n")))

-- what came of the session of the terminal of this number
abbrev pub session_lines : List Declared → ℕ → Result Outcome RunFault → List ℕ
session_lines entries number (Ok outcome) = answered_lines entries number outcome
session_lines entries number (Err why) = fault_line number why

abbrev pub is_failed : Result Outcome RunFault → Bool
is_failed (Ok outcome) = false
is_failed (Err why) = true

-- the lines of terminals in turn, of which the first has this number
abbrev pub served_text : List Declared → ℕ → List (Result Outcome RunFault) → List ℕ
served_text entries number [] = []
served_text entries number (session ∷ sessions) = session_lines entries number session ++ served_text entries (number + 1) sessions

-- ---- what it is

-- a run can begin: the wire goes on, and its reads can be counted
pub record CanRun (wire : WireState) : Type 0 where
  pub goes : wire.stop ≡ None
  pub counts : wire.reads + 1000000 < 2 ^ 64

-- what a run gave; where it had no fault, and the line can't send all that it took, the line's
abbrev pub flushed : {A : Type 0} → Option (Unit {0}) → Result A RunFault → Result A RunFault
flushed (Some done) ran = ran
flushed None (Ok found) = Err (Session LineFault)
flushed None (Err why) = Err why

-- After a run that gave this the line is flushed where it hasn't stopped; where it has, nothing more is done to it.
abbrev pub IsEndedBy : {A : Type 0} → Option Stop → Result A RunFault → WireState → Result A RunFault → WireState → Type 0
IsEndedBy None ran old result new = (sent : Option (Unit {0})) × Flushed old sent new × IsFlush old new × (result ≡ flushed sent ran)
IsEndedBy (Some why) ran old result new = (result ≡ ran) × (new ≡ old)

abbrev pub IsEnded : {A : Type 0} → Result A RunFault → WireState → Result A RunFault → WireState → Type 0
IsEnded ran old result new = IsEndedBy old.stop ran old result new

abbrev pub session_seen : Result HostOutcome RunFault → Result Outcome RunFault
session_seen (Ok outcome) = Ok (outcome_view outcome)
session_seen (Err why) = Err why

-- A host's run over this wire, with TN3270E and RESPONSES where the terminal takes them, gave this, and left the wire so: it
-- is still that of the line which it was made of.
pub record IsHosted (layout : Declaration) (records : List (List ℕ)) (old : WireState) (session : Result Outcome RunFault) (new : WireState) : Type 0 where
  pub middle : WireState
  pub ran : Result HostOutcome RunFault
  pub result : Result HostOutcome RunFault
  pub host : HostRan layout records true true old ran middle
  pub ended : IsEnded ran middle result new
  pub seen : session ≡ session_seen result
  pub over : new.line ≡ old.line

-- out of memory is told by no line
abbrev pub is_told : {A : Type 0} → Result A RunFault → Bool
is_told (Err OutOfMemory) = false
is_told session = true

abbrev pub IsTold : {A : Type 0} → Result A RunFault → Type 0
IsTold session = is_told session ≡ true
