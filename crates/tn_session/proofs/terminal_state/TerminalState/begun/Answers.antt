use Rattle.tn_session.proofs.TerminalRunning.{begun_so}
use Rattle.tn_session.proofs.terminal_state.TerminalState.begun.Goals as goal

pub returns : goal.returns
returns c =
    begun_so c.args.core c.args.device c.in_ok-terminal.terminal c.geometry.result c.new-2.result c.new-3.result c.in_ok-terminal.ensures c.geometry.ensures c.new-2.ensures c.new-3.ensures
