use Rattle.tn_session.proofs.OneLog.{have_one_log, logs_go_on}
use Rattle.tn_session.proofs.laws.one_log.Goals as goal

pub returns-clause-one : goal.returns-clause-one
returns-clause-one c start = have_one_log

pub returns-clause-front : goal.returns-clause-front
returns-clause-front c start = logs_go_on

pub returns-clause-terminal : goal.returns-clause-terminal
returns-clause-terminal c start = (have_one_log, logs_go_on)

pub returns-clause-host : goal.returns-clause-host
returns-clause-host c start = (have_one_log, logs_go_on)
