use Rattle.tn_cores.proofs.PairLaws.{pairs_end}
use Rattle.tn_cores.proofs.laws.delivery_law.Goals as goal

pub returns : goal.returns
returns c = pairs_end
