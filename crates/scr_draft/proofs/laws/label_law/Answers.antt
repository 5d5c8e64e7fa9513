use Rattle.scr_draft.proofs.LabelLaw.{label_last}
use Rattle.scr_draft.proofs.laws.label_law.Goals as goal

pub returns : goal.returns
returns c = label_last
