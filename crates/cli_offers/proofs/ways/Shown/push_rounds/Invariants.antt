use Rattle.cli_offers.proofs.Layers.{OneMore}
use Rattle.cli_offers.proofs.ways.Shown.push_rounds.Given as goal

-- the ways of the rounds so far; those that go on, and the screens to which they or others came
abbrev pub invariant-loop-round : goal.invariant-loop-round
invariant-loop-round l = OneMore l.self l.from l._round l.fn.ways.items l.ways.items l.known.items l.found.items
