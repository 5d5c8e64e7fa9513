use Rattle.order_lines.proofs.Said.{tells_what_is_said}
use Rattle.order_lines.proofs.law.told_law.Goals as goal

pub returns : goal.returns
returns c = tells_what_is_said
