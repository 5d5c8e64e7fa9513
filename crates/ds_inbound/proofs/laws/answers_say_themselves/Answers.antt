use Rattle.ds_inbound.proofs.Pictures.{answers_say, answers_read}
use Rattle.ds_inbound.proofs.laws.answers_say_themselves.Goals as goal

pub returns-clause-said : goal.returns-clause-said
returns-clause-said c = answers_say

pub returns-clause-again : goal.returns-clause-again
returns-clause-again c = answers_read
