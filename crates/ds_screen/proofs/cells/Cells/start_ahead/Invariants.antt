use Rattle.std.proofs.Common.{◌≡◌, ℕ, ◌+◌, ◌<◌, false, length}
use Rattle.ds_screen.specs.Ring.{ring_on}
use Rattle.ds_screen.specs.Starts.{is_field_start}
use Rattle.ds_screen.proofs.cells.Cells.start_ahead.Given as goal

abbrev pub invariant-steps : goal.invariant-steps
invariant-steps g l =
    let cells = g.Self.Cells.content l.self in
    let n : ℕ = length cells in
    record {
      place : l.place ≡ ring_on n l.from l.steps;
      inside : l.place < n;
      misses : (d : ℕ) → d < l.steps → is_field_start cells (ring_on n l.from (d + 1)) ≡ false;
    }
