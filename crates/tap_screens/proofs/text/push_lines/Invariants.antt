use Rattle.std.proofs.Common.{◌≡◌, ◌++◌}
use Rattle.std.specs.List.{flat_map}
use Rattle.cli_commands.specs.Lines.{lines_in}
use Rattle.tap_screens.specs.Text.{line_after, lines_after}
use Rattle.tap_screens.proofs.text.push_lines.Given as goal

abbrev pub invariant-loop-line : goal.invariant-loop-line
invariant-loop-line l = l.out.items ++ flat_map (line_after l.fn.front) l.line-iterator ≡ l.fn.out.items ++ lines_after l.fn.front (lines_in l.fn.text)
