use Rattle.std.proofs.Common.{◌≡◌, length}
use Rattle.bms_map.specs.Lookup.{or_else}
use Rattle.bms_map.specs.Entries.{cursor_of}
use Rattle.bms_map.specs.Maps.{its_ground}
use Rattle.bms_map.proofs.sheet.cursor_of.Given as goal

abbrev pub invariant-loop-rest : goal.invariant-loop-rest
invariant-loop-rest l = or_else (cursor_of (its_ground l.area) l.rest) l.cursor ≡ cursor_of (its_ground l.area) l.entries

abbrev pub decreases-loop-rest : goal.decreases-loop-rest
decreases-loop-rest l = length l.rest
