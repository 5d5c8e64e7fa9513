use Rattle.cli_scripts.proofs.ResumeLaws.{told_opens}
use Rattle.cli_scripts.proofs.worker.Worker.told.Goals as goal

pub returns-in-Calling-Connected-clause-goes : goal.returns-in-Calling-Connected-clause-goes
returns-in-Calling-Connected-clause-goes c =
    told_opens c.connected.result c.args.doing c.args.came c.in-Calling-Connected.host c.args.self.now c.connected.new.desk c.in-Calling-Connected.is-0
    c.in-Calling-Connected.is-1 c.connected.ensures.waits c.connected.ensures.opened
