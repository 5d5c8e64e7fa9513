use Rattle.scr_check.proofs.UserLaw.{yes_means}
use Rattle.scr_check.proofs.laws.yes_law.Goals as goal

pub returns : goal.returns
returns c = yes_means
