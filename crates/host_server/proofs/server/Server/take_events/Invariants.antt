use Rattle.host_server.specs.Serving.{Goes}
use Rattle.host_server.proofs.server.Server.take_events.Given as goal

abbrev pub invariant-loop-event : goal.invariant-loop-event
invariant-loop-event g l = Goes g.H.Hosts.content g.H.Hosts.room g.H.Hosts.IsTold l.fn.self l.self l.fn.pending l.pending
