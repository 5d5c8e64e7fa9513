use Rattle.std.proofs.Common.{◌≡◌, ◌-◌, true}
use Rattle.ds_screen.specs.Shown.{are_nulls}
use Rattle.ds_screen.proofs.cells.Cells.are_nulls.Given as goal

abbrev pub invariant-places : goal.invariant-places
invariant-places g l = are_nulls (g.Self.Cells.content l.self) l.from (l.p - l.from) ≡ true
