use Rattle.std.proofs.Common.{◌≡◌, ◌+◌, length}
use Rattle.bms_map.specs.Entries.{rank_in}
use Rattle.bms_map.proofs.sheet.rank_in.Given as goal

abbrev pub invariant-loop-rest : goal.invariant-loop-rest
invariant-loop-rest l = record { count : l.count + rank_in l.rest l.cell ≡ rank_in l.fields l.cell; whole : l.count + length l.rest ≡ length l.fields }

abbrev pub decreases-loop-rest : goal.decreases-loop-rest
decreases-loop-rest l = length l.rest
