use Rattle.scr_draft.proofs.ReadLaw.{drafted_printed}
use Rattle.scr_draft.proofs.TextLaw.{text_says}
use Rattle.scr_draft.proofs.laws.drafts_law.Goals as goal

pub returns : goal.returns
returns c = λ v sound few. (drafted_printed v few, text_says v sound few)
