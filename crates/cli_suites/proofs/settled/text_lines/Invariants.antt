use Rattle.std.proofs.Common.{◌≡◌, ◌++◌, map, string_bytes}
use Rattle.cli_commands.specs.Lines.{lines_in}
use Rattle.cli_suites.specs.Settled.{text_lines}
use Rattle.cli_suites.proofs.settled.text_lines.Given as goal

abbrev pub invariant-loop-line : goal.invariant-loop-line
invariant-loop-line l = map string_bytes l.lines.items ++ text_lines l.line-iterator ≡ text_lines (lines_in l.fn.text)
