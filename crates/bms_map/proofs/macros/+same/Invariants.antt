use Rattle.std.proofs.Common.{length}
use Rattle.bms_map.proofs.macros.+same.Given as goal

abbrev pub decreases-same : goal.decreases-same
decreases-same l = length l.other.now
