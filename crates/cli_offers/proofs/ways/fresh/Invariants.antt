use Rattle.std.proofs.Common.{◌≡◌, ◌++◌, drop}
use Rattle.cli_offers.specs.Ways.{ends_of, fresh}
use Rattle.cli_offers.proofs.ways.fresh.Given as goal

-- those that were found, with those of the ways that are left; what is known are their ends
abbrev pub invariant-loop-way : goal.invariant-loop-way
invariant-loop-way l = record {
  found : l.found.items ++ fresh l.known.items (drop l.way-index l.ways) ≡ fresh l.fn.known.items l.fn.ways;
  known : l.known.items ≡ l.fn.known.items ++ ends_of l.found.items;
}
