use Rattle.std.proofs.Common.{◌∙◌}
use Rattle.cli_scripts.proofs.PressLaws.{after_run, any_run, deeds_run}
use Rattle.cli_scripts.proofs.Typed.{typed_run}
use Rattle.cli_scripts.proofs.desk.Desk.press_runs.Goals as goal

pub runs-preserved : goal.runs-preserved
runs-preserved c =
    let was = c.runs.invariant in
    let here = c.in_ok-stopped.ensures in
    record {
      deeds = deeds_run c.args.self.now.deeds c.runs.self.deeds c.press_run.new.self.deeds c.args.runs.now c.runs.run-index c.run-item.result c.runs-test.true c.run-item.is was.deeds here.deeds;
      heard = here.heard ∙ was.heard;
      gone = here.gone ∙ was.gone;
      screens = (here.screens.0 ∙ was.screens.0, here.screens.1 ∙ was.screens.1);
      host = here.host ∙ was.host;
      talk = after_run c.args.self.now.talk c.runs.self.talk c.press_run.new.self.talk c.args.runs.now c.runs.run-index c.run-item.result c.runs-test.true c.run-item.is was.talk here.talk;
      inhibited = any_run c.args.self.now.talk c.runs.self.talk c.args.runs.now c.runs.run-index c.run-item.result c.runs.inhibited c.in_ok-stopped.stopped c.runs-test.true c.run-item.is
          was.talk was.inhibited here.inhibited;
      typed = typed_run c.args.self.now c.runs.self c.press_run.new.self c.args.runs.now c.runs.run-index c.run-item.result c.runs-test.true c.run-item.is was.typed here.typed;
    }
