use Rattle.std.proofs.Common.{◌≡◌, ◌++◌, drop}
use Rattle.std.specs.String.{string_bytes}
use Rattle.std.specs.List.{flat_map}
use Rattle.cli_offers.specs.Judging.{way_lines}
use Rattle.cli_offers.proofs.judging.ways_text.Given as goal

abbrev pub invariant-loop-way : goal.invariant-loop-way
invariant-loop-way l =
    string_bytes l.out ++ flat_map (way_lines l.plans l.files) (drop l.way-index l.ways) ≡ flat_map (way_lines l.plans l.files) l.ways
