use Rattle.script_checks.proofs.Promised.{yes_is_promised}
use Rattle.script_checks.proofs.law.yes_law.Goals as goal

pub returns : goal.returns
returns c = yes_is_promised
