use Rattle.std.proofs.Common.{◌≡◌, ◌+◌, ◌≤◌, length}
use Rattle.cli_commands.specs.Lines.{lines_in}
use Rattle.cli_reasons.specs.LayoutLine.{line_where}
use Rattle.cli_reasons.proofs.layout_line.line_where.Given as goal

-- the lines that are left lead to the same, and their numbers fit
abbrev pub invariant-loop-line : goal.invariant-loop-line
invariant-loop-line l = record {
  same : line_where l.wanted l.number l.left l.line-iterator ≡ line_where l.wanted 1 l.tables (lines_in l.fn.text);
  few : l.number + length l.line-iterator ≤ 1 + length l.fn.text;
}
