use Rattle.tn_session.proofs.run.run_over.Given as goal
use Rattle.tn_session.proofs.RunStates.{RunSoFar}

abbrev pub invariant-reads : goal.invariant-reads
invariant-reads g l =
    RunSoFar g.M.Machine.act l.opening l.initial.session l.fn.wire l.session l.wire l._turn
