use Rattle.tn_wire.specs.Calls.{told_of}
use Rattle.tn_cores.proofs.TolerantReplies.{took_step, step_short}
use Rattle.tn_cores.proofs.tolerant.TolerantCore.step.Goals as goal

pub returns-in_default : goal.returns-in_default
returns-in_default c =
    let took = took_step c.args.self.now c.hear.new.self c.of.result (told_of c.args.event.now) c.hear.result c.hear.new.out.items
    c.in_default.not-Record c.of.ensures c.hear.ensures in
    record { took = took; bound = step_short c.args.self.now c.hear.new.self (told_of c.args.event.now) c.hear.result c.hear.new.out.items took }
