use Rattle.tn_session.proofs.TolerantWork.{terminal_takes_on}
use Rattle.tn_session.proofs.terminal_session.TerminalSession.take.Goals as goal

pub invariant_of-self : goal.invariant_of-self
invariant_of-self c =
    (terminal_takes_on c.self.inside.session c.args.bytes.now c.take_any.result c.take_any.ensures.0 c.take_any.new.session c.self.invariant c.take_any.ensures.2).0

pub returns-clause-goes_on : goal.returns-clause-goes_on
returns-clause-goes_on c =
    (terminal_takes_on c.self.inside.session c.args.bytes.now c.take_any.result c.take_any.ensures.0 c.take_any.new.session c.self.invariant c.take_any.ensures.2).1
