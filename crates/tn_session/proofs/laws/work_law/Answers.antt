use Rattle.tn_session.proofs.Worked.{runs_are_worked}
use Rattle.tn_session.proofs.WorkLaws.{work_agrees}
use Rattle.tn_session.proofs.laws.work_law.Goals as goal

pub returns-clause-agrees : goal.returns-clause-agrees
returns-clause-agrees c = work_agrees

pub returns-clause-runs : goal.returns-clause-runs
returns-clause-runs c = runs_are_worked
