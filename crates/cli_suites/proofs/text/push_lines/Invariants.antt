use Rattle.std.proofs.Common.{◌≡◌, ◌++◌, drop, map, string_bytes}
use Rattle.std.specs.List.{flat_map}
use Rattle.cli_suites.specs.Text.{indented}
use Rattle.cli_suites.proofs.text.push_lines.Given as goal

abbrev pub invariant-loop-line : goal.invariant-loop-line
invariant-loop-line l = string_bytes l.out ++ flat_map indented (map string_bytes (drop l.line-index l.lines)) ≡ string_bytes l.fn.out ++ flat_map indented (map string_bytes l.lines)
