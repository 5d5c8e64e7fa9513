use Rattle.std.proofs.Common.{◌≡◌, ◌+◌, ◌≤◌, length}
use Rattle.std.specs.Prelude.{slice_get}
use Rattle.cli_findings.specs.RecordLine.{numbers_of}
use Rattle.cli_findings.specs.Region.{is_table, table_line}
use Rattle.cli_findings.proofs.region.table_line.Given as goal

abbrev pub invariant-loop-line : goal.invariant-loop-line
invariant-loop-line l =
    record {
      found : slice_get (numbers_of is_table l.number l.line-iterator) l.left ≡ table_line l.fn.text l.fn.index;
      few : l.number + length l.line-iterator ≤ length l.fn.text + 1;
    }
