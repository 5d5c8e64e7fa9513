use Rattle.scr_check.proofs.NextLaw.{none_at}
use Rattle.scr_check.proofs.binding.none_taken.Goals as goal

pub returns : goal.returns
returns c = none_at 1000
