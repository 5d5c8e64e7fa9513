-- What a terminal's run over a line did.
use Rattle.std.specs.Prelude.{◌≡◌, ◌⊎◌, Bool, List, [], Option, Some, Result, Ok, Err}
use Rattle.tn_cores.specs.declared.device.Device.{Device}
use Rattle.tn_session.specs.declared.stop.Stop.{Stop}
use Rattle.tn_session.specs.declared.stop.Stop.TheVariants.{ReadFailed, WriteFailed}
use Rattle.tn_session.specs.declared.fault.RunFault.{RunFault}
use Rattle.tn_session.specs.declared.turn.Finish.{Finish}
use Rattle.tn_session.specs.declared.turn.Finish.TheVariants as finish
use Rattle.tn_session.specs.declared.report.Report.{Report}
use Rattle.tn_session.specs.declared.report.RunEnd.{RunEnd}
use Rattle.tn_session.specs.declared.report.RunEnd.TheVariants as ends
use Rattle.tn_session.specs.Wire.{WireState}
use Rattle.tn_session.specs.Ran.{Ran, RunFails, cause_of}
use Rattle.tn_session.specs.Strikes.{Strike}
use Rattle.tn_session.specs.TerminalLog.{TerminalRunning, terminal_start, terminal_act}

-- the line stopped by a read or a write that failed
abbrev pub HasFailed : Option Stop → Type 0
HasFailed stop = (stop ≡ Some ReadFailed) ⊎ (stop ≡ Some WriteFailed)

abbrev pub end_of : Finish → RunEnd
end_of finish.Finished = ends.KeysUsed
end_of finish.Closed = ends.Closed

abbrev pub finish_of : RunEnd → Finish
finish_of ends.KeysUsed = finish.Finished
finish_of ends.Closed = finish.Closed

-- the counts of a run that ended so
abbrev pub report_of : TerminalRunning → RunEnd → Report
report_of running end = record {
  end = end;
  answers = running.state.answers;
  passed = running.state.passed;
  refused = running.state.refused;
}

-- The report is that of the state in which the log of what was read ends, or in which the line closed; a fault is the log's,
-- the line's, or the number of reads. What was sent is what is due by the log.
abbrev pub TerminalRan : Device → Bool → Bool → List Strike → WireState → Result Report RunFault → WireState → Type 0
TerminalRan device enhanced responses keys old (Ok report) new =
    (end : TerminalRunning) × (report ≡ report_of end report.end)
    × Ran terminal_act [] (terminal_start device enhanced responses keys) old (Ok (finish_of report.end)) end new
TerminalRan device enhanced responses keys old (Err why) new =
    RunFails terminal_act [] (terminal_start device enhanced responses keys) old why new (cause_of why)
