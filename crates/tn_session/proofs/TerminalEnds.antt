-- How a line stands after a terminal's run.
use Rattle.std.proofs.Common.{◌≡◌, ◌+◌, Bool, List, [], None, Some, Ok, Err, ap, subst}
use Rattle.std.specs.Prelude.{Result, ◌↔◌, IfOk}
use Rattle.tn_cores.specs.declared.device.Device.{Device}
use Rattle.tn_cores.specs.declared.session.SessionFault.TheVariants as session
use Rattle.tn_session.specs.declared.stop.Stop.TheVariants.{Ended}
use Rattle.tn_session.specs.declared.fault.RunFault.{RunFault}
use Rattle.tn_session.specs.declared.fault.RunFault.TheVariants as faults
use Rattle.tn_session.specs.declared.report.Report.{Report}
use Rattle.tn_session.specs.declared.report.RunEnd.{RunEnd}
use Rattle.tn_session.specs.declared.report.RunEnd.TheVariants as ends
use Rattle.tn_session.specs.Wire.{WireState}
use Rattle.tn_session.specs.Ran.{Ran, ReadsInPieces, cause_of}
use Rattle.tn_session.specs.Strikes.{Strike}
use Rattle.tn_session.specs.TerminalLog.{TerminalRunning, terminal_start, terminal_act}
use Rattle.tn_session.specs.TerminalRuns.{TerminalRan, HasFailed, finish_of}
use Rattle.tn_session.proofs.RunEnds.{line_cause, failed_line, line_failed, not_by_finish, in_pieces}

module _ (device : Device) (enhanced responses : Bool) (keys : List Strike) (old new : WireState) where
  line_back : (result : Result Report RunFault) → old.stop ≡ None → TerminalRan device enhanced responses keys old result new → HasFailed new.stop
      → result ≡ Err (faults.Session session.LineFault)
  line_back (Ok report) goes (end, is, ran) failed =
      not_by_finish terminal_act [] (terminal_start device enhanced responses keys) old new (finish_of report.end) end _ ran failed
  line_back (Err why) goes ran failed =
      ap Err (line_cause why (line_failed terminal_act [] (terminal_start device enhanced responses keys) old new why (cause_of why) goes ran failed))

  pub line_exactly : (result : Result Report RunFault) → old.stop ≡ None → TerminalRan device enhanced responses keys old result new
      → (result ≡ Err (faults.Session session.LineFault)) ↔ HasFailed new.stop
  line_exactly result goes ran = (
    λ is. failed_line terminal_act [] (terminal_start device enhanced responses keys) old new (faults.Session session.LineFault)
        (subst (λ z. TerminalRan device enhanced responses keys old z new) is ran),
    line_back result goes ran,
  )

  closed_end : (end : RunEnd) (last : TerminalRunning) → Ran terminal_act [] (terminal_start device enhanced responses keys) old (Ok (finish_of end)) last new
      → end ≡ ends.Closed → new.stop ≡ Some Ended
  closed_end ends.Closed last ran is = ran.passed.stop_is
  closed_end ends.KeysUsed last ran is = absurd cc

  pub closed_where_ended : (result : Result Report RunFault) → TerminalRan device enhanced responses keys old result new
      → IfOk result (λ report. report.end ≡ ends.Closed → new.stop ≡ Some Ended)
  closed_where_ended (Ok report) (last, is, ran) = closed_end report.end last ran
  closed_where_ended (Err why) ran = tt

  pub many_reads : (result : Result Report RunFault) → TerminalRan device enhanced responses keys old result new
      → result ≡ Err (faults.Session session.TooManyReads) → new.reads ≡ old.reads + 1000000
  many_reads result ran is = (subst (λ z. TerminalRan device enhanced responses keys old z new) is ran).2

  pub terminal_pieces : (result : Result Report RunFault) → TerminalRan device enhanced responses keys old result new → ReadsInPieces old new
  terminal_pieces (Ok report) (last, is, ran) =
      in_pieces terminal_act [] (terminal_start device enhanced responses keys) old new (Ok (finish_of report.end)) last ran
  terminal_pieces (Err why) ran =
      in_pieces terminal_act [] (terminal_start device enhanced responses keys) old new (Err why) (terminal_start device enhanced responses keys) ran
