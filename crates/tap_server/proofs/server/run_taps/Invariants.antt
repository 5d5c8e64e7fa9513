use Rattle.std.proofs.Common.{◌≤◌}
use Rattle.tap_server.specs.Tally.{ArePlaces, most_of}
use Rattle.tap_server.proofs.server.run_taps.Given as goal

abbrev pub invariant-waits : goal.invariant-waits
invariant-waits g l = (l.fn.taps.begun ≤ most_of l.fn.count → l.taps.begun ≤ most_of l.fn.count) × ArePlaces l.fn.taps l.taps
