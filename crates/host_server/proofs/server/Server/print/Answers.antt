use Rattle.host_server.proofs.Served.{keeps_then}
use Rattle.host_server.proofs.Printed.{passes_then}
use Rattle.host_server.proofs.server.Server.print.Goals as goal

pub loop-self-preserved : goal.loop-self-preserved
loop-self-preserved g c = (
  keeps_then g.H.Hosts.content g.H.Hosts.room c.args.self.now c.loop-self.self c.print_some.new.self c.loop-self.invariant.0 c.print_some.ensures.kept,
  passes_then c.args.output.now c.loop-self.output c.print_some.new.output c.args.pending.now c.loop-self.pending c.print_some.new.pending
      c.loop-self.invariant.1 c.print_some.ensures.passes,
)
