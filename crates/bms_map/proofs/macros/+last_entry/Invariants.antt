use Rattle.std.proofs.Common.{length}
use Rattle.bms_map.proofs.macros.+last_entry.Given as goal

abbrev pub decreases-last_entry : goal.decreases-last_entry
decreases-last_entry l = length l.entries.now
