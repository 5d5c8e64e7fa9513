use Rattle.ds_inbound.proofs.Pictures.{reads_again, says_again}
use Rattle.ds_inbound.proofs.write.write_inbound.Goals as goal

pub returns-clause-again : goal.returns-clause-again
returns-clause-again g c = reads_again c.args.screen.now c.args.all c.write_answer.result c.write_answer.ensures.written c.write_answer.ensures.sound

pub returns-clause-only : goal.returns-clause-only
returns-clause-only g c = says_again c.args.screen.now c.args.all c.write_answer.result c.write_answer.ensures.written c.write_answer.ensures.sound
