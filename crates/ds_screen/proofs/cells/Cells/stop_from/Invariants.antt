use Rattle.std.proofs.Common.{◌≡◌, ℕ, ◌<◌, ◌≤◌, false}
use Rattle.ds_screen.specs.Picture.{cell_at}
use Rattle.ds_screen.specs.Orders.{is_unprotected_attribute}
use Rattle.ds_screen.proofs.cells.Cells.stop_from.Given as goal

abbrev pub invariant-places : goal.invariant-places
invariant-places g l = (q : ℕ) → l.from ≤ q → q < l.p → is_unprotected_attribute (cell_at (g.Self.Cells.content l.self) q) ≡ false
