use Rattle.tn_session.proofs.TolerantWork.{heed_so}
use Rattle.tn_session.proofs.terminal_state.TerminalState.heed.Goals as goal

pub returns : goal.returns
returns c =
    heed_so c.args.self.now.core c.in-Tolerant.core c.device.result c.args.told c.args.self.now c.drop_open.new.self c.fit.new.self c.fit.result
    c.in-Tolerant.is c.device.ensures c.drop_open.ensures c.fit.ensures
