use Rattle.std.proofs.Common.{◌≤◌}
use Rattle.tap_server.specs.Tally.{ArePlaces}
use Rattle.tap_server.proofs.server.Taps.accept_all.Given as goal

abbrev pub invariant-waiting : goal.invariant-waiting
invariant-waiting g l = (l.fn.self.begun ≤ l.most → l.self.begun ≤ l.most) × ArePlaces l.fn.self l.self
