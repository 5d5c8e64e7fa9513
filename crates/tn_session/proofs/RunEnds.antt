-- How a line stands after a run, by what the run answered.
use Rattle.std.proofs.Common.{◌≡◌, ℕ, ◌+◌, ◌≤◌, List, Some, None, Ok, Err, refl, sym, ◌∙◌, ap, subst, inl, inr, ⊎_elim, arith}
use Rattle.std.specs.Prelude.{Result}
use Rattle.tn_wire.specs.Stream.{Told}
use Rattle.tn_cores.specs.declared.session.SessionFault.{SessionFault}
use Rattle.tn_cores.specs.declared.session.SessionFault.TheVariants as session
use Rattle.tn_session.specs.declared.stop.Stop.TheVariants.{Ended, ReadFailed, WriteFailed}
use Rattle.tn_session.specs.declared.fault.RunFault.{RunFault}
use Rattle.tn_session.specs.declared.fault.RunFault.TheVariants as faults
use Rattle.tn_session.specs.declared.turn.Finish.{Finish}
use Rattle.tn_session.specs.declared.turn.Finish.TheVariants as finish
use Rattle.tn_session.specs.Wire.{WireState}
use Rattle.tn_session.specs.Runs.{Log}
use Rattle.tn_session.specs.Ran.{Cause, of_stream, of_memory, of_line, of_reads, of_end, of_events, session_cause, cause_of, ReadsInPieces, IsOpen, IsCutShort, RunFails, Ran}
use Rattle.tn_session.specs.TerminalRuns.{HasFailed}
use Rattle.tn_session.proofs.RunSteps.{pieces_none}

session_line : (why : SessionFault) → session_cause why ≡ of_line → faults.Session why ≡ faults.Session session.LineFault
session_line session.LineFault is = refl
session_line (session.Rejected code) is = cc
session_line session.WrongList is = cc
session_line session.BadSubnegotiation is = cc
session_line (session.OptionRefused code) is = cc
session_line session.NotReady is = cc
session_line session.BadResponse is = cc
session_line session.TooManyReads is = cc
session_line session.NoDevice is = cc
session_line session.Closed is = cc
session_line (session.TerminalRefused code) is = cc

pub line_cause : (why : RunFault) → cause_of why ≡ of_line → why ≡ faults.Session session.LineFault
line_cause (faults.Session why) is = session_line why is
line_cause (faults.Wire fault) is = cc
line_cause (faults.Header fault) is = cc
line_cause (faults.Inbound fault) is = cc
line_cause (faults.Bind fault) is = cc
line_cause faults.OutOfMemory is = cc

module _ {State : Type 0} (act : State → Told → Log State) (opening : List ℕ) (state : State) (old new : WireState) where
  pub failed_line : (why : RunFault) → RunFails act opening state old why new of_line → HasFailed new.stop
  failed_line why h =
      ⊎_elim (λ (open_end : (end : State) × IsOpen act opening state old end new (Some ReadFailed)). inl open_end.1.passed.stop_is)
      (λ (cut : IsCutShort act opening state old new). inr cut.passed.stop_is) h

  not_failed : (P : Type 0) → new.stop ≡ None → HasFailed new.stop → P
  not_failed P none h =
      ⊎_elim (λ (read : new.stop ≡ Some ReadFailed). let clash : None ≡ Some ReadFailed = sym none ∙ read in absurd cc)
      (λ (written : new.stop ≡ Some WriteFailed). let clash : None ≡ Some WriteFailed = sym none ∙ written in absurd cc) h

  pub line_failed : (why : RunFault) (cause : Cause) → old.stop ≡ None → RunFails act opening state old why new cause → HasFailed new.stop → cause ≡ of_line
  line_failed why of_line goes ran failed = refl
  line_failed why (of_stream fault) goes (stream, due, end, log, passed) failed = not_failed (of_stream fault ≡ of_line) passed.stop_is failed
  line_failed why of_memory goes (inl same) failed = not_failed (of_memory ≡ of_line) (ap (λ (w : WireState). w.stop) same ∙ goes) failed
  line_failed why of_memory goes (inr (stream, due, lacks, passed)) failed = not_failed (of_memory ≡ of_line) passed.stop_is failed
  line_failed why of_reads goes (end, open_end, counted) failed = not_failed (of_reads ≡ of_line) open_end.passed.stop_is failed
  line_failed why of_end goes ran failed = absurd ran
  line_failed why of_events goes (stream, due, end, log, passed) failed = not_failed (of_events ≡ of_line) passed.stop_is failed

  pub not_by_finish : (how : Finish) (end : State) (P : Type 0) → Ran act opening state old (Ok how) end new → HasFailed new.stop → P
  not_by_finish finish.Finished end P (stream, due, log, passed) failed = not_failed P passed.stop_is failed
  not_by_finish finish.Closed end P ran failed =
      ⊎_elim (λ (read : new.stop ≡ Some ReadFailed). let clash : Some Ended ≡ Some ReadFailed = sym ran.passed.stop_is ∙ read in absurd cc)
      (λ (written : new.stop ≡ Some WriteFailed). let clash : Some Ended ≡ Some WriteFailed = sym ran.passed.stop_is ∙ written in absurd cc) failed

  pieces_failed : (why : RunFault) (cause : Cause) → RunFails act opening state old why new cause → ReadsInPieces old new
  pieces_failed why of_line (inl (end, open_end)) = open_end.passed.pieces
  pieces_failed why of_line (inr cut) = cut.passed.pieces
  pieces_failed why (of_stream fault) (stream, due, end, log, passed) = passed.pieces
  pieces_failed why of_memory (inl same) = subst (ReadsInPieces old) (sym same) (pieces_none old)
  pieces_failed why of_memory (inr (stream, due, lacks, passed)) = passed.pieces
  pieces_failed why of_reads (end, open_end, counted) = open_end.passed.pieces
  pieces_failed why of_end ran = absurd ran
  pieces_failed why of_events (stream, due, end, log, passed) = passed.pieces

  pub in_pieces : (result : Result Finish RunFault) (end : State) → Ran act opening state old result end new → ReadsInPieces old new
  in_pieces (Ok finish.Finished) end (stream, due, log, passed) = passed.pieces
  in_pieces (Ok finish.Closed) end ran = ran.passed.pieces
  in_pieces (Err why) end ran = pieces_failed why (cause_of why) ran

pub few_reads : (old new : WireState) → ReadsInPieces old new → new.reads ≤ old.reads + 1000000
few_reads old new pieces = omega (arith, pieces.reads, pieces.few)
