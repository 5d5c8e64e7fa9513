use Rattle.tn_wire.proofs.Steps.{one_answer_lem}
use Rattle.tn_wire.proofs.laws.one_answer.Goals as goal

pub returns : goal.returns
returns c = one_answer_lem
