use Rattle.std.proofs.Common.{length, sym, ap}
use Rattle.cli_traces.proofs.Pieces.{opens_nothing}
use Rattle.cli_traces.proofs.follower.Follower.new.Goals as goal

pub returns-clause-ready : goal.returns-clause-ready
returns-clause-ready c = (
  (c.in_ok-new.ensures.fault, opens_nothing c.in_ok-new.field-0.content c.in_ok-new.ensures.content, sym (ap length c.in_ok-new.ensures.content)),
  (c.in_ok-new-2.ensures.fault, opens_nothing c.in_ok-new-2.field-0.content c.in_ok-new-2.ensures.content, sym (ap length c.in_ok-new-2.ensures.content)),
)
