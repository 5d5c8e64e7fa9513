use Rattle.std.proofs.Common.{◌≡◌, ◌++◌, drop, map, string_bytes}
use Rattle.cli_suites.specs.Settled.{came_from}
use Rattle.cli_suites.proofs.settled.came_lines.Given as goal

abbrev pub invariant-loop-known : goal.invariant-loop-known
invariant-loop-known l = map string_bytes l.came.items ++ came_from l.name (map string_bytes l.lines) (drop l.known-index l.accepted) ≡ came_from l.name (map string_bytes l.lines) l.accepted
