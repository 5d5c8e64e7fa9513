use Rattle.host_server.proofs.Served.{keeps_then}
use Rattle.host_server.proofs.Arriving.{accepts_more}
use Rattle.host_server.specs.Places.{number_of}
use Rattle.std.specs.Net.Socket.{socket_ip}
use Rattle.host_server.proofs.server.Server.accept_all.Goals as goal

pub loop-preserved : goal.loop-preserved
loop-preserved g c = (
  keeps_then g.H.Hosts.content g.H.Hosts.room c.args.self.now c.loop.self c.take_one.new.self c.loop.invariant.0 c.take_one.ensures.kept,
  accepts_more g.H.Hosts.content g.H.Hosts.takes g.H.Hosts.room (number_of (socket_ip c.in-Ok.peer)) c.args.now c.args.self.now c.loop.self c.take_one.new.self
      c.loop.invariant.1 c.take_one.ensures.taken,
)
