use Rattle.std.proofs.Common.{sym, subst}
use Rattle.tn_wire.specs.Calls.{told_of}
use Rattle.tn_cores.specs.Steps.{Takes, terminal_step}
use Rattle.tn_session.specs.declared.end_core.EndCore.{EndCore}
use Rattle.tn_session.specs.declared.end_core.EndCore.TheVariants.{Strict}
use Rattle.tn_session.specs.EndCores.{core_step}
use Rattle.tn_session.proofs.TerminalSteps.{wrapped}
use Rattle.tn_session.proofs.end_core.EndCore.step.Goals as goal

pub returns-in-Strict : goal.returns-in-Strict
returns-in-Strict c =
    subst (λ (core : EndCore). Takes (core_step core (told_of c.args.event.now)) core c.step.result (Strict c.step.new.self) c.step.new.out.items) (sym c.in-Strict.is)
    (wrapped Strict (terminal_step c.in-Strict.core (told_of c.args.event.now)) c.in-Strict.core c.step.new.self c.step.result c.step.new.out.items c.step.ensures)
