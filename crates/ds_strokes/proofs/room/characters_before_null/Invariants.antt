use Rattle.std.proofs.Common.{◌≡◌, ℕ, ◌<◌, false, length}
use Rattle.ds_screen.specs.Ring.{ring_on}
use Rattle.ds_screen.specs.Picture.{cell_at}
use Rattle.ds_strokes.specs.Room.{is_null}
use Rattle.ds_strokes.proofs.room.characters_before_null.Given as goal

abbrev pub invariant-places : goal.invariant-places
invariant-places g l = (d : ℕ) → d < l.steps → is_null (cell_at l.screen.cells (ring_on (length l.screen.cells) l.at d)) ≡ false
