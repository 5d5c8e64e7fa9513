use Rattle.host_server.proofs.Printed.{serves_all}
use Rattle.host_server.proofs.server.serve_all.Goals as goal

pub returns : goal.returns
returns g c =
    serves_all g.H.Hosts.content g.H.Hosts.room g.H.Hosts.IsTold c.args.server.now c.serve_turns-stopped.new.server c.tell_full.new.self c.args.output.now c.serve_turns-stopped.new.output c.pass_all.new.output
    c.serve_turns-stopped.new.pending c.pass_all.new.pending c.serve_turns-stopped.result c.ended.result
    c.serve_turns-stopped.ensures.prints c.serve_turns-stopped.ensures.stops c.pass_all.ensures.passes c.pass_all.ensures.nothing c.tell_full.ensures.same c.ended.ensures.cut c.ended.ensures.whole
