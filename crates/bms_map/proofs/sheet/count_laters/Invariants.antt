use Rattle.std.proofs.Common.{◌≡◌, ◌+◌, ◌++◌, length, take, drop}
use Rattle.bms_map.specs.Entries.{laters}
use Rattle.bms_map.proofs.sheet.count_laters.Given as goal

abbrev pub invariant-loop-rest : goal.invariant-loop-rest
invariant-loop-rest l = record { count : l.count + length (laters l.rest) ≡ length (laters l.entries); whole : l.count + length l.rest ≡ length l.entries; front : take l.count l.entries ++ laters l.rest ≡ laters l.entries; back : drop l.count l.entries ≡ l.rest }

abbrev pub decreases-loop-rest : goal.decreases-loop-rest
decreases-loop-rest l = length l.rest
