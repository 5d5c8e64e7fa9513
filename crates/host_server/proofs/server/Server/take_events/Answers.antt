use Rattle.host_server.proofs.Served.{goes_none, goes_then}
use Rattle.host_server.proofs.server.Server.take_events.Goals as goal

pub loop-event-init : goal.loop-event-init
loop-event-init g c = goes_none g.H.Hosts.content g.H.Hosts.room g.H.Hosts.IsTold c.args.self.now c.args.pending.now

pub loop-event-preserved : goal.loop-event-preserved
loop-event-preserved g c =
    goes_then g.H.Hosts.content g.H.Hosts.room g.H.Hosts.IsTold c.args.self.now c.loop-event.self c.take_line.new.self c.args.pending.now c.loop-event.pending c.take_line.new.pending
    c.loop-event.invariant c.take_line.ensures

pub returns-in_err-take_line-in_default : goal.returns-in_err-take_line-in_default
returns-in_err-take_line-in_default g c =
    goes_then g.H.Hosts.content g.H.Hosts.room g.H.Hosts.IsTold c.args.self.now c.loop-event.self c.take_line.new.self c.args.pending.now c.loop-event.pending c.take_line.new.pending
    c.loop-event.invariant c.take_line.ensures
