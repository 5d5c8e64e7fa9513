use Rattle.std.proofs.Common.{◌≡◌, ◌<◌, ◌++◌, List, ℕ, length}
use Rattle.cli_taps.specs.Rounds.{EndsRound}
use Rattle.cli_taps.proofs.tap.Tap.go_on.Given as goal

abbrev pub invariant-rounds : goal.invariant-rounds
invariant-rounds g l =
    (0 < length l.fn.scratch → EndsRound l.turn l.self.relayed) × (length l.scratch ≡ length l.fn.scratch)
    × ((text : List ℕ) × (l.out.items ≡ l.fn.out.items ++ text) × (l.self.told ≡ l.fn.self.told ++ text))
