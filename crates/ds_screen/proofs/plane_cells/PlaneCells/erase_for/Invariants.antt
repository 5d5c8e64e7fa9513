use Rattle.std.proofs.Common.{◌≡◌, ◌<◌, ◌≤◌, ◌-◌, ℕ, length}
use Rattle.ds_screen.specs.Ring.{ring_on, ring_back}
use Rattle.ds_screen.specs.Picture.{ruled}
use Rattle.ds_screen.specs.Fields.{ruling_bits}
use Rattle.ds_screen.proofs.RuledLaws.{walked_cell}
use Rattle.ds_screen.proofs.EraseLaws.{nulled_open}
use Rattle.ds_screen.proofs.plane_cells.PlaneCells.erase_for.Given as goal

abbrev pub invariant-runs : goal.invariant-runs
invariant-runs l =
    let cells = l.fn.self.cells in
    let n : ℕ = length cells in
    record {
      room : l.self.room ≡ l.fn.self.room;
      whole : length l.self.cells ≡ n;
      stored : l.self.cells ≡ ruled n (walked_cell cells l.b l.gone (nulled_open cells));
      at : l.at ≡ ring_on n l.b l.gone;
      inside : l.at < n;
      few : l.gone ≤ l.steps;
      ruled_by : l.bits ≡ ruling_bits cells (ring_back n l.at 1);
    }

abbrev pub decreases-runs : goal.decreases-runs
decreases-runs l = l.steps - l.gone
