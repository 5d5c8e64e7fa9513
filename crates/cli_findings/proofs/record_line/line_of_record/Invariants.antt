use Rattle.std.proofs.Common.{◌≡◌, ◌+◌, ◌≤◌, length}
use Rattle.std.specs.Prelude.{slice_get}
use Rattle.cli_findings.specs.RecordLine.{record_line, telling_from}
use Rattle.cli_findings.proofs.record_line.line_of_record.Given as goal

abbrev pub invariant-loop-line : goal.invariant-loop-line
invariant-loop-line l =
    record {
      found : slice_get (telling_from l.number l.line-iterator) l.left ≡ record_line l.fn.text l.fn.index;
      few : l.number + length l.line-iterator ≤ length l.fn.text + 1;
    }
