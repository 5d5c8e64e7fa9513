use Rattle.std.proofs.Common.{◌≡◌, ◌+◌, ◌≤◌, false, length}
use Rattle.cli_commands.specs.Lines.{lines_in}
use Rattle.cli_reasons.specs.Refusal.{order_from}
use Rattle.cli_reasons.proofs.refusal.order_line.Given as goal

-- the lines that are left lead to the same, and their numbers fit
abbrev pub invariant-loop-line : goal.invariant-loop-line
invariant-loop-line l = record {
  same : order_from l.number l.is_begun l.others l.before l.line-iterator ≡ order_from 1 false l.index l.order (lines_in l.fn.text);
  few : l.number + length l.line-iterator ≤ 1 + length l.fn.text;
}
