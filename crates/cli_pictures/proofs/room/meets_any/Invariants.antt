use Rattle.std.proofs.Common.{◌≡◌, drop}
use Rattle.cli_pictures.specs.Room.{meets_any}
use Rattle.cli_pictures.proofs.room.meets_any.Given as goal

abbrev pub invariant-loop-entry : goal.invariant-loop-entry
invariant-loop-entry l = meets_any (drop l.entry-index l.entries) l.p l.count ≡ meets_any l.entries l.p l.count
