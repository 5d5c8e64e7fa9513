use Rattle.tn_cores.proofs.TolerantLaws.{tolerant_agree, tolerant_settle, tolerant_end}
use Rattle.tn_cores.proofs.laws.tolerant_pair_law.Goals as goal

pub returns-clause-agree : goal.returns-clause-agree
returns-clause-agree c = tolerant_agree

pub returns-clause-settle : goal.returns-clause-settle
returns-clause-settle c = tolerant_settle

pub returns-clause-end : goal.returns-clause-end
returns-clause-end c = tolerant_end
