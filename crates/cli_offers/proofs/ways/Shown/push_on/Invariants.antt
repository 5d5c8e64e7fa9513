use Rattle.std.proofs.Common.{◌≡◌, ◌++◌}
use Rattle.std.specs.List.{flat_map, range_with_len}
use Rattle.cli_offers.specs.Ways.{on_at}
use Rattle.cli_offers.proofs.ways.Shown.push_on.Given as goal

abbrev pub invariant-loop-index : goal.invariant-loop-index
invariant-loop-index l = l.ways.items ≡ l.fn.ways.items ++ flat_map (on_at l.self l.way) (range_with_len 0 l.index)
