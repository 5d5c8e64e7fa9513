use Rattle.std.proofs.Common.{length}
use Rattle.parts_tests.proofs.streams.push_told.Given as goal

abbrev pub decreases-events : goal.decreases-events
decreases-events l = length l.rest
