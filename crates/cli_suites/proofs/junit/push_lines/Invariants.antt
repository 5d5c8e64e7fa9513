use Rattle.std.proofs.Common.{◌≡◌, ◌++◌, drop, map, string_bytes}
use Rattle.std.specs.List.{flat_map}
use Rattle.cli_suites.specs.Junit.{escaped_line}
use Rattle.cli_suites.proofs.junit.push_lines.Given as goal

abbrev pub invariant-loop-line : goal.invariant-loop-line
invariant-loop-line l = string_bytes l.out ++ flat_map escaped_line (map string_bytes (drop l.line-index l.lines)) ≡ string_bytes l.fn.out ++ flat_map escaped_line (map string_bytes l.lines)
