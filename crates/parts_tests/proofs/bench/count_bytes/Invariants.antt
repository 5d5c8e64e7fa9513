use Rattle.std.proofs.Common.{length}
use Rattle.parts_tests.proofs.bench.count_bytes.Given as goal

abbrev pub decreases-events : goal.decreases-events
decreases-events l = length l.rest
