use Rattle.std.proofs.Common.{length}
use Rattle.command_tests.proofs.ends.push_piece.Given as goal

abbrev pub decreases-events : goal.decreases-events
decreases-events g l = length l.rest
