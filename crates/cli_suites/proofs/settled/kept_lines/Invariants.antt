use Rattle.std.proofs.Common.{◌≡◌, ◌++◌, drop, map, string_bytes, false}
use Rattle.cli_suites.specs.Settled.{kept}
use Rattle.cli_suites.proofs.settled.kept_lines.Given as goal

abbrev pub invariant-loop-line : goal.invariant-loop-line
invariant-loop-line l = map string_bytes l.left.items ++ kept l.name l.accepted l.is_out (map string_bytes (drop l.line-index l.lines)) ≡ kept l.name l.accepted false (map string_bytes l.lines)
