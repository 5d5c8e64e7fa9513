use Rattle.accept_limit.proofs.Histories.{follows_history}
use Rattle.accept_limit.proofs.laws.history_law.Goals as goal

pub returns : goal.returns
returns c = follows_history
