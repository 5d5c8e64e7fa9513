use Rattle.std.proofs.Common.{length}
use Rattle.cli_maps.proofs.told.+is_name.Given as goal

abbrev pub decreases-is_name : goal.decreases-is_name
decreases-is_name l = length l.name.now
