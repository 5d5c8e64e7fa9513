use Rattle.host_server.proofs.Served.{goes_first, goes_then}
use Rattle.host_server.proofs.server.Server.take_line.Goals as goal

pub returns-then-is_done : goal.returns-then-is_done
returns-then-is_done g c = goes_first g.H.Hosts.content g.H.Hosts.room g.H.Hosts.IsTold c.args.self.now c.work.new.self c.args.pending.now c.work.ensures

pub returns : goal.returns
returns g c =
    goes_then g.H.Hosts.content g.H.Hosts.room g.H.Hosts.IsTold c.args.self.now c.work.new.self c.settle.new.self c.args.pending.now c.args.pending.now c.settle.new.pending
    (goes_first g.H.Hosts.content g.H.Hosts.room g.H.Hosts.IsTold c.args.self.now c.work.new.self c.args.pending.now c.work.ensures) c.settle.ensures
