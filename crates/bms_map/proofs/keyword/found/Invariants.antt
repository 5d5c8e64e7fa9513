use Rattle.std.proofs.Common.{◌≡◌, length}
use Rattle.bms_map.specs.Values.{meaning_in}
use Rattle.bms_map.specs.Tables.{entries_of}
use Rattle.bms_map.proofs.keyword.found.Given as goal

abbrev pub invariant-loop-rest : goal.invariant-loop-rest
invariant-loop-rest l = meaning_in (entries_of l.rest) l.word ≡ meaning_in (entries_of l.table) l.word

abbrev pub decreases-loop-rest : goal.decreases-loop-rest
decreases-loop-rest l = length l.rest
