use Rattle.std.proofs.Common.{◌≡◌, ◌+◌, ◌++◌, length}
use Rattle.bms_source.specs.Rows.{letters_from}
use Rattle.bms_source.proofs.rows.letters_of.Given as goal

abbrev pub invariant-loop-rest : goal.invariant-loop-rest
invariant-loop-rest l =
    record {
      letters : l.letters.items ++ letters_from l.line l.column l.rest ≡ letters_from l.line 1 l.text;
      columns : l.column + length l.rest ≡ 1 + length l.text;
    }

abbrev pub decreases-loop-rest : goal.decreases-loop-rest
decreases-loop-rest l = length l.rest
