use Rattle.std.proofs.Common.{refl}
use Rattle.cli_scripts.specs.declared.worker.Worker.{Worker}
use Rattle.cli_scripts.proofs.ResumeLaws.{resumed}
use Rattle.cli_scripts.proofs.worker.Worker.resume.Goals as goal

pub returns-in_ok-shown-in-Bytes-clause-goes : goal.returns-in_ok-shown-in-Bytes-clause-goes
returns-in_ok-shown-in-Bytes-clause-goes c =
    let told = c.in_ok-shown-in-Bytes.ensures in
    let mid : Worker = record c.args.self.now { desk = c.hear.new.self } in
    resumed c.heard.result c.args.doing c.args.came c.in-Bytes.bytes c.args.self.now mid c.in_ok-shown-in-Bytes.shown _ c.in-Bytes.is
    (refl, told.deeds, told.heard, told.once) c.heard.ensures.goes
