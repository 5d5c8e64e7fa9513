use Rattle.host_server.proofs.Printed.{passes_some, passes_failed}
use Rattle.host_server.proofs.pending.pass_some.Goals as goal

pub returns-in-Some-pass_on-clause-passes : goal.returns-in-Some-pass_on-clause-passes
returns-in-Some-pass_on-clause-passes g c =
    passes_some c.args.output.now c.put.new.self c.pass_on.new.self c.args.pending.now c.pass.new.self c.front-front.result.now c.in-Some.count c.front-front.ensures
    c.in-Some.ensures.bytes c.in-Some.ensures.cause c.in-Some-pass_on.ensures.bytes c.in-Some-pass_on.ensures.cause c.pass.ensures

pub returns-in-None-clause-passes : goal.returns-in-None-clause-passes
returns-in-None-clause-passes g c =
    passes_failed c.args.output.now c.put.new.self c.pass_on.new.self c.args.pending.now c.give_up-in-None.new.self c.front-front.result.now c.in-Some.count c.front-front.ensures
    c.in-Some.ensures.bytes c.in-Some.ensures.cause c.in-None.ensures.bytes c.in-None.ensures.cause c.give_up-in-None.ensures
