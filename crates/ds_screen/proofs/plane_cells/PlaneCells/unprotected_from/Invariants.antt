use Rattle.std.proofs.Common.{◌≤◌, ◌-◌}
use Rattle.ds_screen.proofs.MarkLaws.{NoneFree}
use Rattle.ds_screen.proofs.plane_cells.PlaneCells.unprotected_from.Given as goal

abbrev pub invariant-places : goal.invariant-places
invariant-places l =
    record {
      order : l.from ≤ l.at;
      misses : NoneFree l.self.cells l.from l.at;
    }

abbrev pub decreases-places : goal.decreases-places
decreases-places l = l.n - l.at
