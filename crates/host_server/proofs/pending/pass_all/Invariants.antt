use Rattle.std.proofs.Common.{length}
use Rattle.host_server.specs.Waiting.{Passes}
use Rattle.host_server.proofs.pending.pass_all.Given as goal

abbrev pub invariant-loop-output : goal.invariant-loop-output
invariant-loop-output g l = Passes l.fn.output l.output l.fn.pending l.pending

abbrev pub decreases-loop-output : goal.decreases-loop-output
decreases-loop-output g l = length l.pending.bytes
