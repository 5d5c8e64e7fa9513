use Rattle.std.proofs.Common.{◌≡◌, ℕ, ◌<◌, false, length}
use Rattle.ds_screen.specs.Ring.{ring_on}
use Rattle.ds_screen.specs.Picture.{cell_at}
use Rattle.ds_keys.specs.Moves.{stops_cursor}
use Rattle.ds_keys.proofs.moves.settle.Given as goal

abbrev pub invariant-steps : goal.invariant-steps
invariant-steps g l =
    let cells = l.screen.cells in
    record {
      at_steps : l.at ≡ ring_on (length cells) l.from l.steps;
      inside : l.at < length cells;
      misses : (d : ℕ) → d < l.steps → stops_cursor (cell_at cells (ring_on (length cells) l.from d)) ≡ false;
    }
