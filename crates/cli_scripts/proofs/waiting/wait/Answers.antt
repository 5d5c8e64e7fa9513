use Rattle.cli_scripts.specs.Waits.{Begins}
use Rattle.cli_scripts.proofs.WaitLaws.{waited}
use Rattle.cli_scripts.proofs.waiting.wait.Goals as goal

pub returns : goal.returns
returns c =
    waited c.tell.result c.args.wait (Begins c.args.desk.now c.args.wait) c.begun.result c.args.saying.now c.tell.new.saying c.begun.ensures c.tell.ensures
