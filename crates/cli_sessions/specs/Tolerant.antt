-- What `attach --tolerant` prints of its session, and its status.
use Rattle.std.specs.Prelude.{ℕ, ◌≡◌, ◌==◌, nat_lt, Bool, true, false, not, ◌&&◌, ◌||◌, List, ◌++◌, codes, Result, Ok, Err, if◌then◌else◌}
use Rattle.std.specs.Fmt.{decimal}
use Rattle.cli_commands.specs.declared.status.Status.{Status}
use Rattle.cli_commands.specs.declared.status.Status.TheVariants.{Done, Findings, Failed, NoMemory}
use Rattle.cli_commands.specs.Printed.{Printed, printed}
use Rattle.tn_cores.specs.declared.device.Device.{Device}
use Rattle.tn_cores.specs.declared.session.SessionFault.{SessionFault}
use Rattle.tn_cores.specs.declared.session.SessionFault.TheVariants.{LineFault}
use Rattle.tn_session.specs.declared.fault.RunFault.{RunFault}
use Rattle.tn_session.specs.declared.fault.RunFault.TheVariants.{Session, OutOfMemory}
use Rattle.tn_session.specs.declared.report.TolerantReport.{TolerantReport}
use Rattle.tn_session.specs.Strikes.{Strike}
use Rattle.tn_session.specs.TolerantRuns.{TolerantRan}
use Rattle.tn_session.specs.Wire.{FreshLine, WireState, begun}
use Rattle.cli_sessions.specs.Attach.{end_word, IsReported}
use Rattle.cli_sessions.specs.FaultNumber.{fault_number}
use Rattle.cli_sessions.specs.Printing.{Printing}
use Rattle.cli_sessions.specs.Session.{IsEnded}

abbrev pub taken_words : TolerantReport → List ℕ
taken_words report =
    codes "answers " ++ (decimal report.answers ++ (codes " passed " ++ (decimal report.passed ++ (codes " refused " ++ decimal report.refused))))

abbrev pub other_words : TolerantReport → List ℕ
other_words report =
    codes " ignored " ++ (decimal report.ignored ++ (codes " inhibited " ++ (decimal report.inhibited
    ++ (codes " end " ++ (end_word report.end ++ codes "\n")))))

abbrev pub tolerant_line : TolerantReport → List ℕ
tolerant_line report = taken_words report ++ other_words report

-- So many answers are expected, none where the number is 0. Fewer, or a key that was inhibited, is a finding.
abbrev pub falls_short : ℕ → TolerantReport → Bool
falls_short expected report =
    not (expected == 0) && (nat_lt report.answers expected || not (report.inhibited == 0))

abbrev pub report_status : ℕ → TolerantReport → Status
report_status expected report = if falls_short expected report then Findings else Done

-- the number of a fault, where the line says whether a read of it gave nothing in time
abbrev pub is_of_line : SessionFault → Bool
is_of_line LineFault = true
is_of_line _ = false

abbrev pub is_line_fault : RunFault → Bool
is_line_fault (Session why) = is_of_line why
is_line_fault _ = false

abbrev pub tolerant_fault_number : Bool → RunFault → List ℕ
tolerant_fault_number late why = if late && is_line_fault why then codes "N12" else fault_number why

abbrev pub tolerant_fault_line : Bool → RunFault → List ℕ
tolerant_fault_line late why = codes "fault " ++ (tolerant_fault_number late why ++ codes "\n")

abbrev pub printed_tolerant : ℕ → Bool → Result TolerantReport RunFault → Printed
printed_tolerant expected late (Ok report) = printed (tolerant_line report) (report_status expected report)
printed_tolerant expected late (Err why) = printed (tolerant_fault_line late why) Failed

-- of a session that was out of memory nothing is written
abbrev pub ReportsTolerant : ℕ → Bool → Result TolerantReport RunFault → Printing → Printing → Status → Type 0
ReportsTolerant expected late (Err OutOfMemory) old new status = (status ≡ NoMemory) × (new ≡ old)
ReportsTolerant expected late session old new status = IsReported (printed_tolerant expected late session) old new status

-- A tolerant terminal's run over this wire gave this, and left the wire so: it is still that of the line which it was made of.
pub record IsTolerated (device : Device) (keys : List Strike) (old : WireState) (session : Result TolerantReport RunFault) (new : WireState) : Type 0 where
  pub middle : WireState
  pub ran : Result TolerantReport RunFault
  pub terminal : TolerantRan device keys old ran middle
  pub ended : IsEnded ran middle session new
  pub over : new.line ≡ old.line

-- what was printed is the session's, which was over a wire of this line; the line says whether it was too late
pub record AttachesTolerant (device : Device) (keys : List Strike) (expected : ℕ) (line : FreshLine) (wire : WireState) (old new : Printing) (status : Status) : Type 0 where
  pub session : Result TolerantReport RunFault
  pub late : Bool
  pub attached : IsTolerated device keys (begun line) session wire
  pub reports : ReportsTolerant expected late session old new status
