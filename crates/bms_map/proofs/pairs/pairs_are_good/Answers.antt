use Rattle.bms_map.proofs.PairLaws.{pairs_are_good}
use Rattle.bms_map.proofs.pairs.pairs_are_good.Goals as goal

pub returns : goal.returns
returns c = pairs_are_good
