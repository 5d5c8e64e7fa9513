use Rattle.std.proofs.Common.{refl}
use Rattle.cli_scripts.specs.Ends.{failures_of}
use Rattle.cli_scripts.proofs.EndLaws.{ends_so}
use Rattle.cli_scripts.proofs.run.run_script.Goals as goal

pub returns-clause-cause : goal.returns-clause-cause
returns-clause-cause g c =
    ends_so (failures_of (g.R.GivesBytes.failures c.args.script.now) (g.O.TakesBytes.failures c.args.output.now) (g.P.TakesBytes.failures c.args.report.now))
    (failures_of (g.R.GivesBytes.failures c.work-finish.new.script) (g.O.TakesBytes.failures c.work-finish.new.output) (g.P.TakesBytes.failures c.work-finish.new.report))
    (failures_of (g.R.GivesBytes.failures c.work-finish.new.script) (g.O.TakesBytes.failures c.work-finish.new.output) (g.P.TakesBytes.failures c.conclude.new.report))
    c.args.machine.now c.work-finish.new.machine c.work-finish.result c.conclude.result c.work-finish.ensures.cause c.work-finish.ensures.written c.conclude.ensures.cause refl refl
