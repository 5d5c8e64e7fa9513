use Rattle.std.proofs.Common.{◌≡◌}
use Rattle.tap_server.specs.Tally.{ArePlaces}
use Rattle.tap_server.proofs.server.Taps.turn.Given as goal

abbrev pub invariant-loop-event : goal.invariant-loop-event
invariant-loop-event g l = (l.self.begun ≡ l.fn.self.begun) × ArePlaces l.fn.self l.self

abbrev pub invariant-loop-key : goal.invariant-loop-key
invariant-loop-key g l = (l.self.begun ≡ l.fn.self.begun) × ArePlaces l.fn.self l.self
