use Rattle.std.proofs.Common.{length}
use Rattle.host_server.specs.Serving.{Keeps}
use Rattle.host_server.specs.Waiting.{Passes}
use Rattle.host_server.proofs.server.Server.print.Given as goal

abbrev pub invariant-loop-self : goal.invariant-loop-self
invariant-loop-self g l = Keeps g.H.Hosts.content g.H.Hosts.room l.fn.self l.self × Passes l.fn.output l.output l.fn.pending l.pending

abbrev pub decreases-loop-self : goal.decreases-loop-self
decreases-loop-self g l = length l.pending.bytes
