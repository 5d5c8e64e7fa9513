use Rattle.std.proofs.Common.{◌≡◌, ◌<◌, ◌-◌, ℕ, length}
use Rattle.ds_screen.specs.Picture.{cell_at}
use Rattle.ds_screen.proofs.IndexLaws.{reset_below}
use Rattle.ds_screen.proofs.plane_cells.reset_listed.Given as goal

abbrev pub invariant-listed : goal.invariant-listed
invariant-listed l =
    record {
      room : l.planes.room ≡ l.fn.planes.room;
      whole : length l.planes.cells ≡ length l.fn.planes.cells;
      each : (p : ℕ) → p < length l.fn.planes.cells → cell_at l.planes.cells p ≡ reset_below l.which l.fn.planes.cells l.at p;
    }

abbrev pub decreases-listed : goal.decreases-listed
decreases-listed l = length l.fn.planes.cells - l.at
