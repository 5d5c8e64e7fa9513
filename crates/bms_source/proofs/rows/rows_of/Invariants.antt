use Rattle.std.proofs.Common.{◌≡◌, ◌+◌, map, length}
use Rattle.bms_source.specs.declared.columns.Part.TheVariants.{First}
use Rattle.bms_source.specs.Rows.{rows_from}
use Rattle.bms_source.proofs.Behind.{behind}
use Rattle.bms_source.proofs.rows.rows_of.Given as goal

abbrev pub invariant-loop-rest : goal.invariant-loop-rest
invariant-loop-rest l =
    record {
      rows : behind l.rows.items (rows_from l.part l.number (map (λ line. line.now) l.rest)) ≡ rows_from First l.first (map (λ line. line.now) l.lines);
      count : l.number + length l.rest ≡ l.first + length l.lines;
      few : length l.rows.items + length l.rest ≡ length l.lines;
    }

abbrev pub decreases-loop-rest : goal.decreases-loop-rest
decreases-loop-rest l = length l.rest
