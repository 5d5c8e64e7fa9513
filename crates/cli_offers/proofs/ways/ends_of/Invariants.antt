use Rattle.std.proofs.Common.{◌≡◌, ◌++◌, drop}
use Rattle.cli_offers.specs.Ways.{ends_of}
use Rattle.cli_offers.proofs.ways.ends_of.Given as goal

abbrev pub invariant-loop-way : goal.invariant-loop-way
invariant-loop-way l = l.ends.items ++ ends_of (drop l.way-index l.ways) ≡ ends_of l.fn.ways
