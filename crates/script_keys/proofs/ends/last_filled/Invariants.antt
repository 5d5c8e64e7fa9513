use Rattle.std.proofs.Common.{◌≡◌, ◌≤◌}
use Rattle.ds_screen.specs.Ring.{greatest}
use Rattle.script_keys.specs.Ends.{is_filled_at}
use Rattle.script_keys.proofs.ends.last_filled.Given as goal

abbrev pub invariant-places : goal.invariant-places
invariant-places g l = record { few : l.left ≤ l.count; misses : greatest l.left (is_filled_at l.screen.cells l.start) ≡ greatest l.count (is_filled_at l.screen.cells l.start) }

abbrev pub decreases-places : goal.decreases-places
decreases-places g l = l.left
