use Rattle.tn_cores.proofs.TolerantReplies.{storms_bounded}
use Rattle.tn_cores.proofs.laws.storm_law.Goals as goal

pub returns : goal.returns
returns c = storms_bounded
