use Rattle.script_checks.proofs.BestLaws.{is_found, order_is_nothing}
use Rattle.script_checks.proofs.law.chosen_law.Goals as goal

pub returns-clause-found : goal.returns-clause-found
returns-clause-found c = is_found

pub returns-clause-order : goal.returns-clause-order
returns-clause-order c = order_is_nothing
