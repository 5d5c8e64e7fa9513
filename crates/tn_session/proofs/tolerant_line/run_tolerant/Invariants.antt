use Rattle.std.proofs.Common.{map}
use Rattle.tn_session.proofs.TolerantSteps.{TurnsSoFar}
use Rattle.tn_session.proofs.tolerant_line.run_tolerant.Given as goal

abbrev pub invariant-reads : goal.invariant-reads
invariant-reads g l =
    TurnsSoFar l.fn.device (map g.K.Keystroke.strike l.keys) l.fn.wire
    (record { talk = l.session.talk; keys = map g.K.Keystroke.strike l.rest; inhibited = l.inhibited }) l.session.told l.wire l._turn
