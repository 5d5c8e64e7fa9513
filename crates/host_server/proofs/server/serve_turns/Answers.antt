use Rattle.host_server.proofs.Printed.{prints_first, prints_kept, prints_none, prints_turn}
use Rattle.host_server.proofs.server.serve_turns.Goals as goal

pub returns-in_default-clause-prints : goal.returns-in_default-clause-prints
returns-in_default-clause-prints g c = prints_none g.H.Hosts.content g.H.Hosts.room g.H.Hosts.IsTold c.args.server.now c.args.output.now c.args.pending.now c.requires

pub returns-in-Err-clause-prints : goal.returns-in-Err-clause-prints
returns-in-Err-clause-prints g c = prints_none g.H.Hosts.content g.H.Hosts.room g.H.Hosts.IsTold c.args.server.now c.args.output.now c.args.pending.now c.requires

pub turns-init : goal.turns-init
turns-init g c = prints_first g.H.Hosts.content g.H.Hosts.room g.H.Hosts.IsTold c.args.server.now c.watch.new.self c.args.output.now c.args.pending.now c.requires c.watch.ensures

pub returns-in-Err-wait-clause-prints : goal.returns-in-Err-wait-clause-prints
returns-in-Err-wait-clause-prints g c =
    prints_kept g.H.Hosts.content g.H.Hosts.room g.H.Hosts.IsTold c.args.server.now c.turns.server c.wait.new.server c.args.output.now c.turns.output c.turns.pending c.turns.invariant c.wait.ensures

pub returns-then-is_err-clause-prints : goal.returns-then-is_err-clause-prints
returns-then-is_err-clause-prints g c =
    prints_turn g.H.Hosts.content g.H.Hosts.room g.H.Hosts.IsTold c.args.server.now c.turns.server c.wait.new.server c.turn-told.new.self c.tell_soon.new.self c.print.new.self
    c.args.output.now c.turns.output c.print.new.output c.turns.pending c.turn-told.new.pending c.print.new.pending
    c.turns.invariant c.wait.ensures c.turn-told.ensures c.tell_soon.ensures c.print.ensures.kept c.print.ensures.passes

pub returns-then-is_unread-clause-prints : goal.returns-then-is_unread-clause-prints
returns-then-is_unread-clause-prints g c =
    prints_turn g.H.Hosts.content g.H.Hosts.room g.H.Hosts.IsTold c.args.server.now c.turns.server c.wait.new.server c.turn-told.new.self c.tell_soon.new.self c.print.new.self
    c.args.output.now c.turns.output c.print.new.output c.turns.pending c.turn-told.new.pending c.print.new.pending
    c.turns.invariant c.wait.ensures c.turn-told.ensures c.tell_soon.ensures c.print.ensures.kept c.print.ensures.passes

pub turns-preserved : goal.turns-preserved
turns-preserved g c =
    prints_turn g.H.Hosts.content g.H.Hosts.room g.H.Hosts.IsTold c.args.server.now c.turns.server c.wait.new.server c.turn-told.new.self c.tell_soon.new.self c.print.new.self
    c.args.output.now c.turns.output c.print.new.output c.turns.pending c.turn-told.new.pending c.print.new.pending
    c.turns.invariant c.wait.ensures c.turn-told.ensures c.tell_soon.ensures c.print.ensures.kept c.print.ensures.passes
