use Rattle.std.proofs.Common.{subst}
use Rattle.cli_scripts.specs.Desks.{DidAll}
use Rattle.cli_scripts.specs.Machines.{Scripted}
use Rattle.cli_scripts.proofs.machine.Machine.sent_screens.Goals as goal

pub returns-clause-did : goal.returns-clause-did
returns-clause-did c = subst (λ (m : Scripted). DidAll m.desk) c.self.view_is c.sent_screens.ensures.did
