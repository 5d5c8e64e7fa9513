use Rattle.scr_check.proofs.UserLaw.{yes_means_for_any}
use Rattle.scr_check.proofs.laws.any_terminal_law.Goals as goal

pub returns : goal.returns
returns c = yes_means_for_any
