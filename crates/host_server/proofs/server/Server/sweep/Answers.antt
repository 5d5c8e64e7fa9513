use Rattle.host_server.proofs.Served.{goes_first, goes_then}
use Rattle.host_server.proofs.server.Server.sweep.Goals as goal

pub loop-token-init : goal.loop-token-init
loop-token-init g c = goes_first g.H.Hosts.content g.H.Hosts.room g.H.Hosts.IsTold c.args.self.now c.tick.new.self c.args.pending.now c.tick.ensures

pub returns-in_err-settle : goal.returns-in_err-settle
returns-in_err-settle g c =
    goes_then g.H.Hosts.content g.H.Hosts.room g.H.Hosts.IsTold c.args.self.now c.loop-token.self c.settle.new.self c.args.pending.now c.loop-token.pending c.settle.new.pending
    c.loop-token.invariant c.settle.ensures

pub loop-token-preserved : goal.loop-token-preserved
loop-token-preserved g c =
    goes_then g.H.Hosts.content g.H.Hosts.room g.H.Hosts.IsTold c.args.self.now c.loop-token.self c.settle.new.self c.args.pending.now c.loop-token.pending c.settle.new.pending
    c.loop-token.invariant c.settle.ensures
