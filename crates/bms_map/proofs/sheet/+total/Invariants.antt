use Rattle.std.proofs.Common.{length}
use Rattle.bms_map.proofs.sheet.+total.Given as goal

abbrev pub decreases-total : goal.decreases-total
decreases-total l = length l.entries.now
