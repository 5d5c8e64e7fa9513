use Rattle.std.proofs.Common.{ap, ◌∙◌}
use Rattle.cli_scripts.specs.declared.deed.Deed.TheVariants.{Pressed}
use Rattle.cli_scripts.specs.Pressing.{is_inhibited}
use Rattle.cli_scripts.proofs.PressLaws.{after_more, any_more}
use Rattle.cli_scripts.proofs.Presses.{deeds_grow}
use Rattle.cli_scripts.proofs.Typed.{typed_more}
use Rattle.cli_scripts.proofs.desk.Desk.press_times.Goals as goal

pub times-preserved : goal.times-preserved
times-preserved c =
    let was = c.times.invariant in
    let here = c.in_ok-pressed.ensures in
    record {
      deeds = deeds_grow c.args.self.now.deeds c.times.self.deeds c.press.new.self.deeds (Pressed c.args.key.now) c.times._time was.deeds here.deeds;
      heard = here.heard ∙ was.heard;
      gone = here.gone ∙ was.gone;
      screens = (here.screens.0 ∙ was.screens.0, here.screens.1 ∙ was.screens.1);
      host = here.host ∙ was.host;
      talk = after_more c.args.self.now.talk c.times.self.talk c.press.new.self.talk c.args.key.now c.times._time was.talk here.talk;
      inhibited = any_more c.args.self.now.talk c.times.self.talk c.args.key.now c.times._time c.times.inhibited c.is_inhibited-inhibited.result was.talk was.inhibited
          (c.is_inhibited-inhibited.ensures ∙ ap is_inhibited here.answer);
      typed = typed_more c.args.self.now c.times.self c.press.new.self c.args.key.now c.times._time was.typed here.typed;
    }
