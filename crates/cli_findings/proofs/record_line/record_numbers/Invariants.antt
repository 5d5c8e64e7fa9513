use Rattle.std.proofs.Common.{◌≡◌, ◌+◌, ◌++◌, ◌≤◌, length}
use Rattle.cli_findings.specs.RecordLine.{record_numbers, telling_from}
use Rattle.cli_findings.proofs.record_line.record_numbers.Given as goal

abbrev pub invariant-loop-line : goal.invariant-loop-line
invariant-loop-line l =
    record {
      found : l.numbers.items ++ telling_from l.line_number l.line-iterator ≡ record_numbers l.fn.text;
      few : l.line_number + length l.line-iterator ≤ length l.fn.text + 1;
    }
