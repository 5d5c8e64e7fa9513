use Rattle.std.proofs.Common.{[], ◌∙◌, ap}
use Rattle.tn_session.specs.declared.terminal_state.TerminalState.{TerminalState}
use Rattle.tn_session.specs.OneLog.{waits}
use Rattle.tn_session.specs.Talk.{Talk, stands}
use Rattle.tn_session.specs.TerminalTalk.{Worked, no_arrival}
use Rattle.tn_session.proofs.terminal_session.TerminalSession.tolerant.Goals as goal

worked_of : Talk TerminalState → Worked
worked_of talk = record { talk = talk; told = no_arrival }

pub returns : goal.returns
unfolding worked_of
returns c = ap worked_of (c.in_ok-new.ensures ∙ ap (λ (state : TerminalState). stands (waits state [])) c.in_ok-state.ensures)
