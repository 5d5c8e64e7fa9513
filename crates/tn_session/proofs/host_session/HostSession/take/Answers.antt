use Rattle.std.proofs.Common.{subst}
use Rattle.tn_session.specs.HostLog.{host_act}
use Rattle.tn_session.specs.Talk.{Takes}
use Rattle.tn_session.proofs.HostFinish.{has_come}
use Rattle.tn_session.proofs.host_session.HostSession.take.Goals as goal

pub returns-clause-outcome : goal.returns-clause-outcome
returns-clause-outcome c has =
    has_come c.args.self.now c.args.bytes.now c.take.result c.take.ensures.0 c.take.new.self has
    (subst (λ t. Takes host_act t c.args.bytes.now c.take.result c.take.ensures.0 c.take.new.self) c.self.view_is c.take.ensures.2)
