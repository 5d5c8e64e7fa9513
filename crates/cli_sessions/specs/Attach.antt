-- What `attach` prints of its session, and its status.
use Rattle.std.specs.Prelude.{ℕ, ◌≡◌, ◌⊎◌, true, false, List, ◌++◌, codes, Result, Ok, Err}
use Rattle.std.specs.Fmt.{decimal}
use Rattle.cli_commands.specs.declared.status.Status.{Status}
use Rattle.cli_commands.specs.declared.status.Status.TheVariants.{Done, Failed, NoMemory}
use Rattle.cli_commands.specs.Printed.{Printed, printed}
use Rattle.tn_cores.specs.declared.device.Device.{Device}
use Rattle.tn_session.specs.declared.fault.RunFault.{RunFault}
use Rattle.tn_session.specs.declared.fault.RunFault.TheVariants.{OutOfMemory}
use Rattle.tn_session.specs.declared.report.Report.{Report}
use Rattle.tn_session.specs.declared.report.RunEnd.{RunEnd}
use Rattle.tn_session.specs.declared.report.RunEnd.TheVariants.{KeysUsed, Closed}
use Rattle.tn_session.specs.Strikes.{Strike}
use Rattle.tn_session.specs.TerminalRuns.{TerminalRan}
use Rattle.tn_session.specs.Wire.{FreshLine, WireState, begun}
use Rattle.cli_sessions.specs.FaultNumber.{fault_number}
use Rattle.cli_sessions.specs.Printing.{Printing, IsPrinted}
use Rattle.cli_sessions.specs.Session.{IsEnded}

abbrev pub end_word : RunEnd → List ℕ
end_word KeysUsed = codes "keys"
end_word Closed = codes "closed"

abbrev pub report_line : Report → List ℕ
report_line report =
    codes "answers " ++ (decimal report.answers ++ (codes " passed " ++ (decimal report.passed ++ (codes " refused " ++ (decimal report.refused
    ++ (codes " end " ++ (end_word report.end ++ codes "\n")))))))

abbrev pub fault_line : RunFault → List ℕ
fault_line why = codes "fault " ++ (fault_number why ++ codes "\n")

-- what is printed of a session, and the status
abbrev pub printed_attach : Result Report RunFault → Printed
printed_attach (Ok report) = printed (report_line report) Done
printed_attach (Err why) = printed (fault_line why) Failed

-- A terminal's run over this wire, with TN3270E and RESPONSES where the host asks for them, gave this, and left the wire so:
-- it is still that of the line which it was made of.
pub record IsAttached (device : Device) (keys : List Strike) (old : WireState) (session : Result Report RunFault) (new : WireState) : Type 0 where
  pub middle : WireState
  pub ran : Result Report RunFault
  pub terminal : TerminalRan device true true keys old ran middle
  pub ended : IsEnded ran middle session new
  pub over : new.line ≡ old.line

-- its line was written, and the status is its; or a write of it failed; or memory was refused for it, and none is written
abbrev pub IsReported : Printed → Printing → Printing → Status → Type 0
IsReported due old new status =
    ((status ≡ due.status) × IsPrinted old new due.text true)
    ⊎ (((status ≡ Failed) × IsPrinted old new due.text false) ⊎ ((status ≡ NoMemory) × (new ≡ old)))

-- of a session that was out of memory nothing is written
abbrev pub Reports : Result Report RunFault → Printing → Printing → Status → Type 0
Reports (Err OutOfMemory) old new status = (status ≡ NoMemory) × (new ≡ old)
Reports session old new status = IsReported (printed_attach session) old new status

-- what was printed is the session's, which was over a wire of this line
pub record Attaches (device : Device) (keys : List Strike) (line : FreshLine) (wire : WireState) (old new : Printing) (status : Status) : Type 0 where
  pub session : Result Report RunFault
  pub attached : IsAttached device keys (begun line) session wire
  pub reports : Reports session old new status
