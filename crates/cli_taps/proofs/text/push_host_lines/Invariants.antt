use Rattle.std.proofs.Common.{◌≡◌, ◌++◌}
use Rattle.std.specs.List.{flat_map}
use Rattle.cli_taps.specs.Text.{host_line, host_lines}
use Rattle.cli_taps.proofs.text.push_host_lines.Given as goal

abbrev pub invariant-loop-line : goal.invariant-loop-line
invariant-loop-line l = l.out.items ++ flat_map host_line l.line-iterator ≡ l.fn.out.items ++ host_lines l.fn.text
