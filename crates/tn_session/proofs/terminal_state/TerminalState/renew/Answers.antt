use Rattle.tn_session.proofs.TolerantWork.{renewed_so}
use Rattle.tn_session.proofs.terminal_state.TerminalState.renew.Goals as goal

pub returns : goal.returns
returns c =
    renewed_so c.args.device c.args.self.now c.in_ok-self.field-0 c.geometry.result c.kept_anew.result
    c.in_ok-self.ensures c.geometry.ensures c.kept_anew.ensures
