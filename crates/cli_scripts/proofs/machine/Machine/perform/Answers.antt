use Rattle.std.proofs.Common.{ap}
use Rattle.cli_scripts.specs.Machines.{Scripted}
use Rattle.cli_scripts.proofs.LineEnds.{answered_after, of_parts, told_after}
use Rattle.cli_scripts.specs.Performs.{worker_of}
use Rattle.cli_scripts.proofs.TakeLaws.{performed}
use Rattle.cli_scripts.proofs.machine.Machine.perform.Goals as goal

pub returns-in-Ok-clause-answered : goal.returns-in-Ok-clause-answered
returns-in-Ok-clause-answered c =
    answered_after c.stop_at.result c.args.self.now (of_parts c.perform.new.self c.self.inside.job c.self.inside.answers) c.stop_at.new.self
    (ap (λ (m : Scripted). m.telling) c.self.view_is) c.stop_at.ensures.answered

pub returns-in-Ok-clause-tells : goal.returns-in-Ok-clause-tells
returns-in-Ok-clause-tells c =
    told_after c.stop_at.result c.args.self.now (of_parts c.perform.new.self c.self.inside.job c.self.inside.answers) c.stop_at.new.self
    (ap (λ (m : Scripted). m.telling) c.self.view_is) c.stop_at.ensures.tells

pub returns-in-Ok-clause-performs : goal.returns-in-Ok-clause-performs
returns-in-Ok-clause-performs c =
    performed c.stop_at.result c.args.line.now c.self.inside.worker c.perform.new.self c.in-Ok.step c.in-Ok.rest.now c.args.self.now
    (of_parts c.perform.new.self c.self.inside.job c.self.inside.answers) c.stop_at.new.self (ap worker_of c.self.view_is)
    (ap (λ (m : Scripted). m.telling) c.self.view_is) c.in-Ok.ensures.goes c.stop_at.ensures.becomes
