use Rattle.std.proofs.Common.{◌≡◌, ◌≤◌, length}
use Rattle.ds_screen.specs.Ring.{greatest}
use Rattle.script_requests.specs.Addresses.{is_used_at}
use Rattle.script_requests.proofs.address.without_end.Given as goal

abbrev pub invariant-places : goal.invariant-places
invariant-places l = record { few : l.left ≤ length l.text; misses : greatest l.left (is_used_at l.text) ≡ greatest (length l.text) (is_used_at l.text) }

abbrev pub decreases-places : goal.decreases-places
decreases-places l = l.left
