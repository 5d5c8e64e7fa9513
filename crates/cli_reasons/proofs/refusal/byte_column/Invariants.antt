use Rattle.std.proofs.Common.{◌≡◌, ◌+◌, ◌≤◌, length}
use Rattle.cli_reasons.specs.Refusal.{column_from, byte_column}
use Rattle.cli_reasons.proofs.refusal.byte_column.Given as goal

-- the digits that are left lead to the same column, which fits
abbrev pub invariant-loop-rest : goal.invariant-loop-rest
invariant-loop-rest l = record {
  same : column_from l.column l.others l.rest ≡ byte_column l.fn.line l.fn.at;
  few : l.column + length l.rest ≤ 1 + length l.fn.line;
}

abbrev pub decreases-loop-rest : goal.decreases-loop-rest
decreases-loop-rest l = length l.rest
