use Rattle.std.proofs.Common.{map, ◌∙◌, ap, Err}
use Rattle.std.proofs.lemmas.Result.{err_from_is_err_and}
use Rattle.tn_session.proofs.TerminalRunning.{ran_so, failed_so, no_screen}
use Rattle.tn_session.proofs.terminal_line.run_terminal.Goals as goal

pub returns-in_err-state : goal.returns-in_err-state
returns-in_err-state g c =
    let p = err_from_is_err_and c.from_residual.result c.from_residual.ensures.1 in
    no_screen c.args.device c.args.enhanced c.args.responses (map g.K.Keystroke.strike c.args.keys.now) c.args.wire.now c.from_residual.result (p.1 ∙ ap Err p.2)

pub returns-in_err-session : goal.returns-in_err-session
returns-in_err-session g c =
    let p = err_from_is_err_and c.from_residual-in_err-session.result c.from_residual-in_err-session.ensures.1 in
    no_screen c.args.device c.args.enhanced c.args.responses (map g.K.Keystroke.strike c.args.keys.now) c.args.wire.now c.from_residual-in_err-session.result (p.1 ∙ ap Err p.2)

pub returns-in_err-finish : goal.returns-in_err-finish
returns-in_err-finish g c =
    let p = err_from_is_err_and c.from_residual-in_err-finish.result c.from_residual-in_err-finish.ensures.1 in
    failed_so c.args.device c.args.enhanced c.args.responses (map g.K.Keystroke.strike c.args.keys.now) c.args.wire.now c.run_over.new.wire c.in_ok-state.state c.in_ok-state.ensures
    c.in_err-finish.field-0.0 c.in_ok-session.session c.run_over.new.session c.from_residual-in_err-finish.result
    c.in_ok-session.ensures (p.1 ∙ ap Err p.2) c.in_err-finish.ensures

pub returns : goal.returns
returns g c =
    ran_so c.args.device c.args.enhanced c.args.responses (map g.K.Keystroke.strike c.args.keys.now) c.args.wire.now c.run_over.new.wire c.in_ok-state.state c.in_ok-state.ensures
    c.in_ok-finish.finish c.in_ok-session.session c.run_over.new.session c.machine.result.now c.report.result
    c.in_ok-session.ensures c.in_ok-finish.ensures c.machine.ensures c.report.ensures
