use Rattle.std.proofs.Common.{◌≡◌, ◌≤◌, ◌<◌, ◌+◌, ◌-◌, ◌%◌, ℕ, length}
use Rattle.ds_screen.specs.Picture.{ruled}
use Rattle.ds_screen.proofs.RunLaws.{run_cell}
use Rattle.ds_screen.proofs.plane_cells.write_round.Given as goal

abbrev pub invariant-parts : goal.invariant-parts
invariant-parts l =
    let n : ℕ = length l.fn.planes.cells in
    record {
      room : l.planes.room ≡ l.fn.planes.room;
      whole : length l.planes.cells ≡ n;
      stored : l.planes.cells ≡ ruled n (run_cell l.fn.planes.cells l.b l.run l.done);
      at : l.at ≡ (l.b + l.done) % n;
      inside : l.at < n;
      few : l.done ≤ length l.run;
    }

abbrev pub decreases-parts : goal.decreases-parts
decreases-parts l = length l.run - l.done
