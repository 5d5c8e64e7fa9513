use Rattle.std.proofs.Common.{None, false, sym, ap, subst}
use Rattle.std.specs.Prelude.{IfOk}
use Rattle.script_screens.specs.declared.lines.Outcome.TheVariants.{Failed}
use Rattle.cli_scripts.specs.declared.came.Came.{Came}
use Rattle.cli_scripts.specs.Machines.{Scripted, TellsSo, goes_on}
use Rattle.cli_scripts.proofs.LineEnds.{told_line}
use Rattle.cli_scripts.specs.Performs.{TakesBy}
use Rattle.cli_scripts.proofs.TakeLaws.{took_long}
use Rattle.cli_scripts.proofs.machine.Machine.take_line.Goals as goal

pub returns-in_ok-say-in-LongLine-clause-tells : goal.returns-in_ok-say-in-LongLine-clause-tells
returns-in_ok-say-in-LongLine-clause-tells c =
    subst (λ (it : Came). IfOk c.end_line.result (λ wants. TellsSo (goes_on false it) c.args.self.now wants c.end_line.new.self)) (sym c.in-LongLine.is)
    (told_line c.end_line.result c.args.self.now c.end_line.new.self c.self.inside.worker.desk c.say.new.self c.self.inside.answers Failed
    c.end_line.ensures.wants c.end_line.ensures.tells c.end_line.ensures.desk (ap (λ (m : Scripted). m.telling) c.self.view_is))

pub returns-in_ok-say-in-LongLine-clause-takes : goal.returns-in_ok-say-in-LongLine-clause-takes
returns-in_ok-say-in-LongLine-clause-takes c =
    subst (λ (it : Came). IfOk c.end_line.result (λ wants. TakesBy None it c.args.self.now wants c.end_line.new.self)) (sym c.in-LongLine.is)
    (took_long c.end_line.result c.self.inside.worker c.self.inside.answers c.self.inside.job c.say.new.self c.args.self.now c.end_line.new.self
    c.self.view_is c.requires.job c.in_ok-say-in-LongLine.ensures c.end_line.ensures.wants c.end_line.ensures.job c.end_line.ensures.tells
    c.end_line.ensures.worker)
