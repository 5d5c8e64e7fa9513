use Rattle.std.proofs.Common.{◌≡◌, ◌++◌, drop, map, string_bytes}
use Rattle.cli_suites.specs.Text.{accepted_lines}
use Rattle.cli_suites.proofs.text.push_accepted.Given as goal

abbrev pub invariant-loop-line : goal.invariant-loop-line
invariant-loop-line l = string_bytes l.out ++ accepted_lines l.name (map string_bytes (drop l.line-index l.came)) ≡ string_bytes l.fn.out ++ accepted_lines l.name (map string_bytes l.came)
