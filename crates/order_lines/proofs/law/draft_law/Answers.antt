use Rattle.order_lines.proofs.Drafts.{written_in_turn}
use Rattle.order_lines.proofs.law.draft_law.Goals as goal

pub returns : goal.returns
returns c = written_in_turn
