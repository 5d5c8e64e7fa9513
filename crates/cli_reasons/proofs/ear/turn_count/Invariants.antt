use Rattle.std.proofs.Common.{◌≡◌, ◌+◌, ◌≤◌, length}
use Rattle.cli_commands.specs.Lines.{lines_in}
use Rattle.cli_reasons.specs.Hearing.{turns_in}
use Rattle.cli_reasons.proofs.ear.turn_count.Given as goal

-- what is counted, and the turns of the lines that are left, are all; and the count fits
abbrev pub invariant-lines : goal.invariant-lines
invariant-lines l = record {
  same : l.count + turns_in l.line-iterator ≡ 1 + turns_in (lines_in l.fn.text);
  few : l.count + length l.line-iterator ≤ 1 + length l.fn.text;
}
