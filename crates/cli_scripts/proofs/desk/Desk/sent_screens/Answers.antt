use Rattle.std.proofs.Common.{subst}
use Rattle.cli_scripts.specs.Desks.{DidAll}
use Rattle.cli_scripts.proofs.desk.Desk.sent_screens.Goals as goal

pub returns-clause-did : goal.returns-clause-did
returns-clause-did c = subst DidAll c.self.view_is c.self.invariant
