use Rattle.std.proofs.Common.{◌≡◌, ℕ, ◌<◌, false}
use Rattle.ds_screen.specs.Ring.{ring_on}
use Rattle.ds_screen.specs.Picture.{cell_at}
use Rattle.ds_screen.specs.Fields.{is_attribute}
use Rattle.ds_screen.proofs.plain.PlainCellsCells.attr_from.Given as goal

abbrev pub invariant-steps : goal.invariant-steps
invariant-steps l = record {
  at_steps : l.at ≡ ring_on l.n l.p l.steps;
  inside : l.at < l.n;
  misses : (d : ℕ) → d < l.steps → is_attribute (cell_at l.self.cells.items (ring_on l.n l.p d)) ≡ false;
}
