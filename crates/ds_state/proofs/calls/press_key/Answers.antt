use Rattle.std.proofs.Common.{subst}
use Rattle.ds_state.specs.State.{Opens}
use Rattle.ds_state.proofs.Leaves.{pressed_length, leaves_pressed}
use Rattle.ds_state.proofs.calls.press_key.Goals as goal

pub close_state-requires : goal.close_state-requires
close_state-requires c =
    pressed_length c.in-Some.screen c.press-pressed.new.screen c.args.key c.press-pressed.result c.args.state.now
    (subst (Opens c.args.state.now) c.in-Some.is c.in_ok-opened.ensures) c.press-pressed.ensures

pub returns-clause-pressed : goal.returns-clause-pressed
returns-clause-pressed c =
    leaves_pressed c.in-Some.screen c.press-pressed.new.screen c.args.key c.press-pressed.result c.args.state.now c.close_state.new.state
    (subst (Opens c.args.state.now) c.in-Some.is c.in_ok-opened.ensures) c.press-pressed.ensures c.in_ok-close_state.ensures.left
