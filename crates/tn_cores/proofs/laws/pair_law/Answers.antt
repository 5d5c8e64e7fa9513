use Rattle.tn_cores.proofs.PairLaws.{pairs_agree, pairs_settle}
use Rattle.tn_cores.proofs.laws.pair_law.Goals as goal

pub returns-clause-agree : goal.returns-clause-agree
returns-clause-agree c = pairs_agree

pub returns-clause-settle : goal.returns-clause-settle
returns-clause-settle c = pairs_settle
