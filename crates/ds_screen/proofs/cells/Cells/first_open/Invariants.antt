use Rattle.std.proofs.Common.{◌≡◌, ℕ, ◌<◌, false, length}
use Rattle.ds_screen.specs.Ring.{ring_on, ring_back}
use Rattle.ds_screen.specs.Fields.{ruling_bits, is_open}
use Rattle.ds_screen.proofs.cells.Cells.first_open.Given as goal

abbrev pub invariant-steps : goal.invariant-steps
invariant-steps g l =
    let cells = g.Self.Cells.content l.self in
    let n : ℕ = length cells in
    record {
      at : l.at ≡ ring_on n l.from l.steps;
      inside : l.at < n;
      ruled_by : l.bits ≡ ruling_bits cells (ring_back n l.at 1);
      misses : (d : ℕ) → d < l.steps → is_open cells (ring_on n l.from d) ≡ false;
    }
