use Rattle.std.proofs.Common.{◌≡◌, ◌+◌, ◌++◌, ◌≤◌, length}
use Rattle.cli_reports.specs.Numbers.{turn_numbers, telling_from}
use Rattle.cli_reports.proofs.numbers.turn_numbers.Given as goal

abbrev pub invariant-loop-line : goal.invariant-loop-line
invariant-loop-line l =
    record {
      found : l.numbers.items ++ telling_from l.line_number l.line-iterator ≡ turn_numbers l.fn.text;
      few : l.line_number + length l.line-iterator ≤ length l.fn.text + 1;
    }
