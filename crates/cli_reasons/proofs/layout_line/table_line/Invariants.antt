use Rattle.std.proofs.Common.{◌≡◌, ◌+◌, ◌≤◌, length}
use Rattle.cli_commands.specs.Lines.{lines_in}
use Rattle.cli_reasons.specs.LayoutLine.{table_line}
use Rattle.cli_reasons.proofs.layout_line.table_line.Given as goal

-- the lines that are left lead to the same, and their numbers fit
abbrev pub invariant-loop-line : goal.invariant-loop-line
invariant-loop-line l = record {
  same : table_line l.number l.left l.line-iterator ≡ table_line 1 l.tables (lines_in l.fn.text);
  few : l.number + length l.line-iterator ≤ 1 + length l.fn.text;
}
