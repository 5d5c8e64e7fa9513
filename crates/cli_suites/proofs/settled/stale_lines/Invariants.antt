use Rattle.std.proofs.Common.{◌≡◌, ◌++◌, drop, map, string_bytes}
use Rattle.cli_suites.specs.Settled.{stale_from}
use Rattle.cli_suites.proofs.settled.stale_lines.Given as goal

abbrev pub invariant-loop-known : goal.invariant-loop-known
invariant-loop-known l = map string_bytes l.stale.items ++ stale_from l.name (map string_bytes l.lines) (drop l.known-index l.accepted) ≡ stale_from l.name (map string_bytes l.lines) l.accepted
