use Rattle.std.proofs.Common.{◌≡◌, drop, map, string_bytes}
use Rattle.cli_suites.specs.Settled.{counted}
use Rattle.cli_suites.proofs.settled.count_findings.Given as goal

abbrev pub invariant-loop-line : goal.invariant-loop-line
invariant-loop-line l = counted l.count (map string_bytes (drop l.line-index l.lines)) ≡ counted 0 (map string_bytes l.lines)
