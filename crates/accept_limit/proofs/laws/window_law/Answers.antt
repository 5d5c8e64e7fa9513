use Rattle.accept_limit.proofs.Windows.{within_limit}
use Rattle.accept_limit.proofs.laws.window_law.Goals as goal

pub returns : goal.returns
returns c = within_limit
