use Rattle.std.proofs.Common.{◌≤◌, ◌-◌, length}
use Rattle.ds_screen.proofs.StartLaws.{NoneOpening}
use Rattle.ds_screen.proofs.plane_cells.PlaneCells.opening_from.Given as goal

abbrev pub invariant-openings : goal.invariant-openings
invariant-openings l =
    record {
      order : l.from ≤ l.at;
      misses : NoneOpening l.self.cells l.from l.at;
    }

abbrev pub decreases-openings : goal.decreases-openings
decreases-openings l = length l.self.cells - l.at
