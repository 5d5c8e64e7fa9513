use Rattle.std.proofs.Common.{Some, ◌∙◌, ap}
use Rattle.tn_cores.specs.declared.tolerant.TolerantCore.{TolerantCore}
use Rattle.tn_session.specs.declared.end_core.EndCore.TheVariants.{Tolerant}
use Rattle.tn_session.specs.declared.terminal_state.TerminalState.{TerminalState}
use Rattle.tn_session.specs.Kept.{nothing_kept}
use Rattle.tn_session.specs.TerminalLog.{begun_state}
use Rattle.tn_session.proofs.terminal_state.TerminalState.tolerant.Goals as goal

pub returns : goal.returns
returns c =
    c.keeping.ensures
    ∙ ap (λ (state : TerminalState). record state { kept = Some nothing_kept })
    (c.in_ok-state.ensures ∙ ap (λ (core : TolerantCore). begun_state (Tolerant core) c.args.device) c.tolerant.ensures)
