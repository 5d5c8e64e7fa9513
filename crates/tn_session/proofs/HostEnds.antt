-- How a line stands after a host's run.
use Rattle.std.proofs.Common.{◌≡◌, ℕ, ◌+◌, Bool, List, None, Some, Ok, Err, sym, ◌∙◌, ap, subst, inl, inr, ⊎_elim}
use Rattle.std.specs.Prelude.{Result, ◌↔◌}
use Rattle.scr_layout.specs.Layout.{Declaration}
use Rattle.tn_cores.specs.declared.session.SessionFault.TheVariants as session
use Rattle.tn_cores.specs.Host.{new_host, opening}
use Rattle.tn_cores.specs.Replies.{bytes_of}
use Rattle.tn_session.specs.declared.fault.RunFault.{RunFault}
use Rattle.tn_session.specs.declared.fault.RunFault.TheVariants as faults
use Rattle.tn_session.specs.declared.outcome.HostOutcome.{HostOutcome}
use Rattle.tn_session.specs.declared.stop.Stop.TheVariants.{Ended, ReadFailed, WriteFailed}
use Rattle.tn_session.specs.declared.turn.Finish.{Finish}
use Rattle.tn_session.specs.declared.turn.Finish.TheVariants as finish
use Rattle.tn_session.specs.HostLog.{HostRunning, host_start, host_act}
use Rattle.tn_session.specs.HostRan.{Answers, HostRan}
use Rattle.tn_session.specs.Ran.{Ran, ReadsInPieces, cause_of}
use Rattle.tn_session.specs.TerminalRuns.{HasFailed}
use Rattle.tn_session.specs.Wire.{WireState}
use Rattle.tn_session.proofs.RunEnds.{line_cause, failed_line, line_failed, not_by_finish, in_pieces}
use Rattle.tn_session.proofs.RunSteps.{pieces_none}

module _ (layout : Declaration) (records : List (List ℕ)) (enhanced responses : Bool) (old new : WireState) where
  abbrev first : List ℕ
  first = bytes_of (opening (new_host layout.geometry enhanced responses))

  abbrev start : HostRunning
  start = host_start layout records enhanced responses

  abbrev Ran_so : Result Finish RunFault → HostRunning → Type 0
  Ran_so done end = Ran host_act first start old done end new

  stopped_none : (P : Type 0) → old.stop ≡ None → new ≡ old → HasFailed new.stop → P
  stopped_none P goes same failed =
      let none : new.stop ≡ None = ap (λ (w : WireState). w.stop) same ∙ goes in
      ⊎_elim (λ (read : new.stop ≡ Some ReadFailed). let clash : None ≡ Some ReadFailed = sym none ∙ read in absurd cc)
      (λ (written : new.stop ≡ Some WriteFailed). let clash : None ≡ Some WriteFailed = sym none ∙ written in absurd cc) failed

  -- a fault of the result is that of the run, or the end of the line
  line_run : (done : Result Finish RunFault) (end : HostRunning) (result : Result HostOutcome RunFault) → Ran_so done end → Answers done end result
      → result ≡ Err (faults.Session session.LineFault) → HasFailed new.stop
  line_run (Ok finish.Finished) end result ran (outcome, is, told) line = let clash : Ok outcome ≡ Err (faults.Session session.LineFault) = sym is ∙ line in absurd cc
  line_run (Ok finish.Closed) end result ran is line =
      let clash : ◌≡◌ {A = Result HostOutcome RunFault} (Err (faults.Session session.Closed)) (Err (faults.Session session.LineFault)) = sym is ∙ line in absurd cc
  line_run (Err why) end result ran is line =
      let same : why ≡ faults.Session session.LineFault = same_fault why (sym is ∙ line) in
      failed_line host_act first start old new (faults.Session session.LineFault) (subst (λ w. Ran_so (Err w) end) same ran)
    where
      same_fault : (w : RunFault) → ◌≡◌ {A = Result HostOutcome RunFault} (Err w) (Err (faults.Session session.LineFault)) → w ≡ faults.Session session.LineFault
      same_fault w e = cc

  line_back : (done : Result Finish RunFault) (end : HostRunning) (result : Result HostOutcome RunFault) → old.stop ≡ None → Ran_so done end → Answers done end result
      → HasFailed new.stop → result ≡ Err (faults.Session session.LineFault)
  line_back (Ok how) end result goes ran answer failed = not_by_finish host_act first start old new how end _ ran failed
  line_back (Err why) end result goes ran is failed = is ∙ ap Err (line_cause why (line_failed host_act first start old new why (cause_of why) goes ran failed))

  pub line_exactly : (result : Result HostOutcome RunFault) → old.stop ≡ None → HostRan layout records enhanced responses old result new
      → (result ≡ Err (faults.Session session.LineFault)) ↔ HasFailed new.stop
  line_exactly result goes (inl (has, r)) = (line_run r.finished r.end result r.ran r.answer, line_back r.finished r.end result goes r.ran r.answer)
  line_exactly result goes (inr (has_none, is, same)) = (
    λ line. let clash : ◌≡◌ {A = Result HostOutcome RunFault} (Err (faults.Session session.NoDevice)) (Err (faults.Session session.LineFault)) = sym is ∙ line in absurd cc,
    stopped_none _ goes same,
  )

  closed_run : (done : Result Finish RunFault) (end : HostRunning) (result : Result HostOutcome RunFault) → Ran_so done end → Answers done end result
      → result ≡ Err (faults.Session session.Closed) → new.stop ≡ Some Ended
  closed_run (Ok finish.Finished) end result ran (outcome, is, told) closed = let clash : Ok outcome ≡ Err (faults.Session session.Closed) = sym is ∙ closed in absurd cc
  closed_run (Ok finish.Closed) end result ran is closed = ran.passed.stop_is
  closed_run (Err why) end result ran is closed =
      let same : why ≡ faults.Session session.Closed = same_fault why (sym is ∙ closed) in
      absurd (subst (λ w. Ran_so (Err w) end) same ran)
    where
      same_fault : (w : RunFault) → ◌≡◌ {A = Result HostOutcome RunFault} (Err w) (Err (faults.Session session.Closed)) → w ≡ faults.Session session.Closed
      same_fault w e = cc

  pub closed_where_ended : (result : Result HostOutcome RunFault) → HostRan layout records enhanced responses old result new
      → result ≡ Err (faults.Session session.Closed) → new.stop ≡ Some Ended
  closed_where_ended result (inl (has, r)) closed = closed_run r.finished r.end result r.ran r.answer closed
  closed_where_ended result (inr (has_none, is, same)) closed =
      let clash : ◌≡◌ {A = Result HostOutcome RunFault} (Err (faults.Session session.NoDevice)) (Err (faults.Session session.Closed)) = sym is ∙ closed in absurd cc

  many_run : (done : Result Finish RunFault) (end : HostRunning) (result : Result HostOutcome RunFault) → Ran_so done end → Answers done end result
      → result ≡ Err (faults.Session session.TooManyReads) → new.reads ≡ old.reads + 1000000
  many_run (Ok finish.Finished) end result ran (outcome, is, told) many = let clash : Ok outcome ≡ Err (faults.Session session.TooManyReads) = sym is ∙ many in absurd cc
  many_run (Ok finish.Closed) end result ran is many =
      let clash : ◌≡◌ {A = Result HostOutcome RunFault} (Err (faults.Session session.Closed)) (Err (faults.Session session.TooManyReads)) = sym is ∙ many in absurd cc
  many_run (Err why) end result ran is many =
      let same : why ≡ faults.Session session.TooManyReads = same_fault why (sym is ∙ many) in
      (subst (λ w. Ran_so (Err w) end) same ran).2
    where
      same_fault : (w : RunFault) → ◌≡◌ {A = Result HostOutcome RunFault} (Err w) (Err (faults.Session session.TooManyReads)) → w ≡ faults.Session session.TooManyReads
      same_fault w e = cc

  pub many_reads : (result : Result HostOutcome RunFault) → HostRan layout records enhanced responses old result new
      → result ≡ Err (faults.Session session.TooManyReads) → new.reads ≡ old.reads + 1000000
  many_reads result (inl (has, r)) many = many_run r.finished r.end result r.ran r.answer many
  many_reads result (inr (has_none, is, same)) many =
      let clash : ◌≡◌ {A = Result HostOutcome RunFault} (Err (faults.Session session.NoDevice)) (Err (faults.Session session.TooManyReads)) = sym is ∙ many in absurd cc

  pub host_pieces : (result : Result HostOutcome RunFault) → HostRan layout records enhanced responses old result new → ReadsInPieces old new
  host_pieces result (inl (has, r)) = in_pieces host_act first start old new r.finished r.end r.ran
  host_pieces result (inr (has_none, is, same)) = subst (ReadsInPieces old) (sym same) (pieces_none old)
