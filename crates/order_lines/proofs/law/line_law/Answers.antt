use Rattle.order_lines.proofs.Spelled.{lines_tell_again}
use Rattle.order_lines.proofs.law.line_law.Goals as goal

pub returns : goal.returns
returns c = lines_tell_again
