use Rattle.order_lines.proofs.Spelled.{written_again}
use Rattle.order_lines.proofs.Inside.{only_inside}
use Rattle.order_lines.proofs.law.record_law.Goals as goal

pub returns-clause-again : goal.returns-clause-again
returns-clause-again c = written_again

pub returns-clause-only : goal.returns-clause-only
returns-clause-only c = only_inside
