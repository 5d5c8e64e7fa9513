use Rattle.std.proofs.Common.{◌≡◌, ℕ, ◌+◌, ◌<◌, false, length}
use Rattle.ds_screen.specs.Ring.{ring_back}
use Rattle.script_keys.specs.Fill.{ends_fill}
use Rattle.script_keys.proofs.fill.fill_reach.Given as goal

abbrev pub invariant-steps : goal.invariant-steps
invariant-steps g l = (d : ℕ) → d < l.steps → ends_fill l.screen.cells l.columns (ring_back (length l.screen.cells) l.place (d + 1)) ≡ false
