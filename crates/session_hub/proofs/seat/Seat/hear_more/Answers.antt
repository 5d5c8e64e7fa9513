use Rattle.std.proofs.Common.{◌-◌, length, sym, arith}
use Rattle.session_hub.proofs.Heard.{seat_heard}
use Rattle.session_hub.proofs.seat.Seat.hear_more.Goals as goal

pub returns : goal.returns
returns g c =
    let took = c.take-came.ensures.took in
    rw (sym c.self.view_is)
    (seat_heard g.S.Session.takes c.args.limits.now c.args.now c.self.inside.number c.self.inside.since c.self.inside.left c.self.inside.gone
    c.saturating_sub-self-inside.result (c.len.result - c.self.inside.gone) c.args.bytes.now c.self.inside.due.items c.take-came.new.due.items took.0
    c.self.inside.session c.take-came.new.self c.self.inside.stand c.stand_after-self-inside.result c.take-came.result
    took.2 took.1 (omega (arith, c.self.invariant, c.self.inside.due.ok)) c.saturating_sub-self-inside.ensures (grind (arith, c.len.ensures, c.take-came.new.due.ok)) c.stand_after-self-inside.ensures)
