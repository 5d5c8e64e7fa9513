use Rattle.ds_inbound.proofs.Answers.{has_one_answer}
use Rattle.ds_inbound.proofs.laws.one_answer.Goals as goal

pub returns : goal.returns
returns c = has_one_answer
