use Rattle.host_server.specs.Serving.{Prints}
use Rattle.host_server.proofs.server.serve_turns.Given as goal

abbrev pub invariant-turns : goal.invariant-turns
invariant-turns g l = Prints g.H.Hosts.content g.H.Hosts.room g.H.Hosts.IsTold l.fn.server l.server l.fn.output l.output l.pending
