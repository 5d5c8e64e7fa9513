use Rattle.std.proofs.Common.{length}
use Rattle.bms_map.proofs.macros.+is_lower.Given as goal

abbrev pub decreases-is_lower : goal.decreases-is_lower
decreases-is_lower l = length l.label.now
