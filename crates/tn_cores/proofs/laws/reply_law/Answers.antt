use Rattle.tn_cores.proofs.ReplyLaws.{terminal_heard, host_heard, opening_heard}
use Rattle.tn_cores.proofs.TolerantReplies.{tolerant_heard}
use Rattle.tn_cores.proofs.laws.reply_law.Goals as goal

pub returns-clause-terminal : goal.returns-clause-terminal
returns-clause-terminal c = terminal_heard

pub returns-clause-host : goal.returns-clause-host
returns-clause-host c = host_heard

pub returns-clause-opening : goal.returns-clause-opening
returns-clause-opening c = opening_heard

pub returns-clause-tolerant : goal.returns-clause-tolerant
returns-clause-tolerant c = tolerant_heard
