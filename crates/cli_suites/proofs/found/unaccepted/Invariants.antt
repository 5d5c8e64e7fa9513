use Rattle.std.proofs.Common.{◌≡◌, ◌++◌, drop, not}
use Rattle.std.specs.List.{filter}
use Rattle.cli_suites.specs.Found.{is_accepted_of}
use Rattle.cli_suites.proofs.found.unaccepted.Given as goal

abbrev pub invariant-loop-traced : goal.invariant-loop-traced
invariant-loop-traced l =
    l.left.items ++ filter (λ traced. not (is_accepted_of l.name l.accepted l.layout traced)) (drop l.traced-index l.found)
    ≡ filter (λ traced. not (is_accepted_of l.name l.accepted l.layout traced)) l.found
