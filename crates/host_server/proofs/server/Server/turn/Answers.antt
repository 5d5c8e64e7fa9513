use Rattle.host_server.proofs.Served.{goes_kept, goes_then}
use Rattle.host_server.proofs.server.Server.turn.Goals as goal

pub returns-then-looks : goal.returns-then-looks
returns-then-looks g c =
    goes_then g.H.Hosts.content g.H.Hosts.room g.H.Hosts.IsTold c.args.self.now c.accept_all.new.self c.sweep.new.self c.args.pending.now c.take_events.new.pending c.sweep.new.pending
    (goes_kept g.H.Hosts.content g.H.Hosts.room g.H.Hosts.IsTold c.args.self.now c.take_events.new.self c.accept_all.new.self c.args.pending.now c.take_events.new.pending
    c.take_events.ensures c.accept_all.ensures.kept) c.sweep.ensures

pub returns : goal.returns
returns g c =
    goes_kept g.H.Hosts.content g.H.Hosts.room g.H.Hosts.IsTold c.args.self.now c.take_events.new.self c.accept_all.new.self c.args.pending.now c.take_events.new.pending
    c.take_events.ensures c.accept_all.ensures.kept
