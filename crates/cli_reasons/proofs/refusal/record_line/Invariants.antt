use Rattle.std.proofs.Common.{◌≡◌, ◌+◌, ◌≤◌, length}
use Rattle.cli_commands.specs.Lines.{lines_in}
use Rattle.cli_reasons.specs.Refusal.{record_from}
use Rattle.cli_reasons.proofs.refusal.record_line.Given as goal

-- the lines that are left lead to the same, and their numbers fit
abbrev pub invariant-loop-line : goal.invariant-loop-line
invariant-loop-line l = record {
  same : record_from l.number l.others l.line-iterator ≡ record_from 1 l.index (lines_in l.fn.text);
  few : l.number + length l.line-iterator ≤ 1 + length l.fn.text;
}
