use Rattle.host_server.proofs.Printed.{passes_then}
use Rattle.host_server.proofs.pending.pass_all.Goals as goal

pub loop-output-preserved : goal.loop-output-preserved
loop-output-preserved g c =
    passes_then c.args.output.now c.loop-output.output c.pass_some.new.output c.args.pending.now c.loop-output.pending c.pass_some.new.pending
    c.loop-output.invariant c.pass_some.ensures.passes
