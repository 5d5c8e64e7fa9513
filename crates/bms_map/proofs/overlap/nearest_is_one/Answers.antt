use Rattle.bms_map.proofs.OverlapLaws.{nearest_is_one}
use Rattle.bms_map.proofs.overlap.nearest_is_one.Goals as goal

pub returns : goal.returns
returns c = nearest_is_one
