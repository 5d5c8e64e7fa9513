use Rattle.std.proofs.Common.{◌≡◌, ◌++◌, drop}
use Rattle.std.specs.String.{string_bytes}
use Rattle.std.specs.List.{flat_map}
use Rattle.cli_offers.specs.Judging.{name_at, then_name, way_names}
use Rattle.cli_offers.proofs.judging.push_names.Given as goal

-- the names so far, with those of the screens that are left
abbrev pub invariant-loop-index : goal.invariant-loop-index
invariant-loop-index l =
    string_bytes l.out ++ flat_map (λ n. then_name (name_at l.plans n)) (drop l.index-index l.way.others) ≡ string_bytes l.fn.out ++ way_names l.plans l.way
