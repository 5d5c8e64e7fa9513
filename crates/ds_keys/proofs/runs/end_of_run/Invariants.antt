use Rattle.std.proofs.Common.{◌≡◌, ℕ, ◌<◌, ◌≤◌, false}
use Rattle.ds_screen.specs.Picture.{cell_at}
use Rattle.ds_screen.specs.Fields.{is_attribute}
use Rattle.ds_keys.proofs.runs.end_of_run.Given as goal

abbrev pub invariant-places : goal.invariant-places
invariant-places g l = (q : ℕ) → l.from ≤ q → q < l.p → is_attribute (cell_at l.screen.cells q) ≡ false
