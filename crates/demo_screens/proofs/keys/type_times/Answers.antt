use Rattle.ds_keys.specs.declared.key.Key.TheVariants.{Typed}
use Rattle.demo_screens.proofs.KeyLaws.{not_pressed, pressed_again}
use Rattle.demo_screens.proofs.keys.type_times.Goals as goal

pub times-init : goal.times-init
times-init g c = record { pressed = not_pressed c.args.screen.now (Typed 0xC1); listed = c.requires; back = λ before back. back }

pub returns-in_err-type_once-clause-back : goal.returns-in_err-type_once-clause-back
returns-in_err-type_once-clause-back g c before back = c.type_once.ensures.back before (c.times.invariant.back before back)

pub times-preserved : goal.times-preserved
times-preserved g c =
    record {
      pressed = pressed_again c.args.screen.now c.times.screen c.type_once.new.screen (Typed 0xC1) c.times.counter c.times.invariant.pressed c.in_ok-type_once.ensures.pressed;
      listed = c.in_ok-type_once.ensures.listed;
      back = λ before back. c.type_once.ensures.back before (c.times.invariant.back before back);
    }
