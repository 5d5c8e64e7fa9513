use Rattle.std.proofs.Common.{length}
use Rattle.tn_session.proofs.TolerantWork.{TakenSoFar}
use Rattle.tn_session.proofs.terminal_session.take_bytes.Given as goal

abbrev pub invariant-bytes : goal.invariant-bytes
invariant-bytes l = TakenSoFar l.initial.session l.bytes l.initial.due.items l.session l.rest l.due.items

abbrev pub decreases-bytes : goal.decreases-bytes
decreases-bytes l = length l.rest
