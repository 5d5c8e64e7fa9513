use Rattle.bms_map.proofs.OverlapLaws.{overlaps_are_nearest}
use Rattle.bms_map.proofs.overlap.overlaps_are_nearest.Goals as goal

pub returns : goal.returns
returns c = overlaps_are_nearest
