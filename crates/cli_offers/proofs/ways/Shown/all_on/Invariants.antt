use Rattle.std.proofs.Common.{◌≡◌, ◌++◌, drop}
use Rattle.cli_offers.specs.Ways.{all_on}
use Rattle.cli_offers.proofs.ways.Shown.all_on.Given as goal

-- the longer ways so far, with those of the ways that are left, are those of all
abbrev pub invariant-loop-way : goal.invariant-loop-way
invariant-loop-way l = l.longer.items ++ all_on l.self (drop l.way-index l.ways) ≡ all_on l.self l.fn.ways
