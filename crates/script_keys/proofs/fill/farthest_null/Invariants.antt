use Rattle.std.proofs.Common.{◌≡◌, ◌≤◌}
use Rattle.ds_screen.specs.Ring.{greatest}
use Rattle.script_keys.specs.Fill.{is_null_back}
use Rattle.script_keys.proofs.fill.farthest_null.Given as goal

abbrev pub invariant-places : goal.invariant-places
invariant-places g l = record { few : l.left ≤ l.count; misses : greatest l.left (is_null_back l.screen.cells l.place) ≡ greatest l.count (is_null_back l.screen.cells l.place) }

abbrev pub decreases-places : goal.decreases-places
decreases-places g l = l.left
