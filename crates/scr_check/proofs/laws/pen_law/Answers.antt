use Rattle.scr_check.proofs.PenLaws.{selecting_leaves}
use Rattle.scr_check.proofs.PenVerdict.{yes_means_with_pen}
use Rattle.scr_check.proofs.laws.pen_law.Goals as goal

pub returns : goal.returns
returns c = record { leaves = selecting_leaves; promised = yes_means_with_pen }
