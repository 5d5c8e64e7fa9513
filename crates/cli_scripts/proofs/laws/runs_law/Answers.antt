use Rattle.cli_scripts.proofs.RunCounts.{answers_each}
use Rattle.cli_scripts.proofs.RunOnce.{runs_agree, turns_agree}
use Rattle.cli_scripts.proofs.YesKeys.{yes_holds}
use Rattle.cli_scripts.proofs.laws.runs_law.Goals as goal

pub returns-clause-turns : goal.returns-clause-turns
returns-clause-turns c = turns_agree

pub returns-clause-runs : goal.returns-clause-runs
returns-clause-runs c = runs_agree

pub returns-clause-answers : goal.returns-clause-answers
returns-clause-answers c = answers_each

pub returns-clause-promise : goal.returns-clause-promise
returns-clause-promise c = yes_holds
