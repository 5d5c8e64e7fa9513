use Rattle.host_server.specs.Serving.{Keeps}
use Rattle.host_server.specs.Arriving.{Accepts}
use Rattle.host_server.proofs.server.Server.accept_all.Given as goal

abbrev pub invariant-loop : goal.invariant-loop
invariant-loop g l =
    Keeps g.H.Hosts.content g.H.Hosts.room l.fn.self l.self × Accepts g.H.Hosts.content g.H.Hosts.takes g.H.Hosts.room l.now l.fn.self l.self
