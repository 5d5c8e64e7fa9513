use Rattle.std.proofs.Common.{◌≡◌}
use Rattle.host_server.proofs.one_line.work_line.Given as goal

-- what is served stays, and nobody else comes
abbrev pub invariant-loop : goal.invariant-loop
invariant-loop g l =
    (g.H.Hosts.content l.hosts ≡ g.H.Hosts.content l.fn.hosts) × ((g.H.Hosts.room l.hosts).came ≡ (g.H.Hosts.room l.fn.hosts).came)
