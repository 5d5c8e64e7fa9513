use Rattle.std.proofs.Common.{◌≡◌, ℕ, ◌<◌, false}
use Rattle.ds_screen.specs.Ring.{ring_back}
use Rattle.ds_screen.specs.Picture.{cell_at}
use Rattle.ds_screen.specs.Fields.{is_attribute}
use Rattle.ds_screen.proofs.plain.PlainCellsCells.attr_before.Given as goal

abbrev pub invariant-steps : goal.invariant-steps
invariant-steps l = record {
  at_steps : l.at ≡ ring_back l.n l.p l.steps;
  inside : l.at < l.n;
  misses : (d : ℕ) → d < l.steps → is_attribute (cell_at l.self.cells.items (ring_back l.n l.p d)) ≡ false;
}
