use Rattle.std.proofs.Common.{length}
use Rattle.script_tests.proofs.lu_names.push_events.Given as goal

abbrev pub decreases-events : goal.decreases-events
decreases-events g l = length l.rest
