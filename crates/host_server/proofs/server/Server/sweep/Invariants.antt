use Rattle.host_server.specs.Serving.{Goes}
use Rattle.host_server.proofs.server.Server.sweep.Given as goal

abbrev pub invariant-loop-token : goal.invariant-loop-token
invariant-loop-token g l = Goes g.H.Hosts.content g.H.Hosts.room g.H.Hosts.IsTold l.fn.self l.self l.fn.pending l.pending
