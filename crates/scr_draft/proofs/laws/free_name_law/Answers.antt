use Rattle.std.proofs.Common.{arith}
use Rattle.scr_draft.proofs.NameLaws.{form_free}
use Rattle.scr_draft.proofs.laws.free_name_law.Goals as goal

pub returns : goal.returns
returns c = λ names cols place label few. (form_free names cols place label (omega arith)).0
