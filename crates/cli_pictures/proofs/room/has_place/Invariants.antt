use Rattle.std.proofs.Common.{◌≡◌, drop}
use Rattle.cli_pictures.specs.Room.{has_place}
use Rattle.cli_pictures.proofs.room.has_place.Given as goal

abbrev pub invariant-loop-entry : goal.invariant-loop-entry
invariant-loop-entry l = has_place (drop l.entry-index l.entries) l.p l.count ≡ has_place l.entries l.p l.count
