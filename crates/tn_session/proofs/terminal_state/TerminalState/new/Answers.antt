use Rattle.std.proofs.Common.{◌≡◌, subst}
use Rattle.std.specs.Prelude.{IfOk}
use Rattle.tn_cores.specs.declared.terminal.TermCore.{TermCore}
use Rattle.tn_session.specs.declared.end_core.EndCore.TheVariants.{Strict}
use Rattle.tn_session.specs.TerminalLog.{begun_state}
use Rattle.tn_session.proofs.terminal_state.TerminalState.new.Goals as goal

pub returns : goal.returns
returns c = subst (λ (core : TermCore). IfOk c.begun.result (λ state. state ≡ begun_state (Strict core) c.args.device)) c.new.ensures c.begun.ensures
