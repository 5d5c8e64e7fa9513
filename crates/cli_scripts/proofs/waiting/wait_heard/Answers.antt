use Rattle.std.specs.Prelude.{is_some}
use Rattle.cli_scripts.specs.Waits.{HearsAt}
use Rattle.cli_scripts.proofs.WaitLaws.{waited}
use Rattle.cli_scripts.proofs.waiting.wait_heard.Goals as goal

pub returns : goal.returns
returns c =
    waited c.tell.result c.args.wait (HearsAt (is_some c.args.desk.now.host) c.args.desk.now c.args.wait) c.heard.result c.args.saying.now
    c.tell.new.saying c.heard.ensures c.tell.ensures
