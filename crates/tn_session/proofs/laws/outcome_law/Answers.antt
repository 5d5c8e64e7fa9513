use Rattle.tn_session.proofs.OutcomeLaws.{answers_finish, answers_end_logs, outcomes_are_touched}
use Rattle.tn_session.proofs.laws.outcome_law.Goals as goal

pub returns-clause-finishes : goal.returns-clause-finishes
returns-clause-finishes c = answers_finish

pub returns-clause-log : goal.returns-clause-log
returns-clause-log c = answers_end_logs

pub returns-clause-outcome : goal.returns-clause-outcome
returns-clause-outcome c = outcomes_are_touched
