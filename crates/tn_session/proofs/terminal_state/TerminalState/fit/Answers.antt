use Rattle.std.proofs.Common.{sym, ◌∙◌}
use Rattle.tn_session.proofs.TolerantWork.{fit_so}
use Rattle.tn_session.proofs.terminal_state.TerminalState.fit.Goals as goal

pub returns : goal.returns
returns c =
    fit_so c.args.device c.args.self.now c.renew.new.self c.renew.result (sym c.fits.ensures ∙ c.if-fits.false) c.renew.ensures
