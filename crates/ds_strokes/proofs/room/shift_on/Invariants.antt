use Rattle.std.proofs.Common.{◌≡◌, ◌+◌, length}
use Rattle.ds_codec.specs.declared.cell.Cell.TheVariants.{Char}
use Rattle.ds_screen.specs.Ring.{ring_on}
use Rattle.ds_screen.specs.Picture.{cell_at}
use Rattle.ds_strokes.proofs.RoomLaws.{so_far}
use Rattle.ds_strokes.proofs.room.shift_on.Given as goal

abbrev pub invariant-places : goal.invariant-places
invariant-places g l =
    let v = l.fn.screen in
    record {
      stored : l.screen ≡ so_far v l.count (l.steps + 1);
      carried_is : Char l.carried ≡ cell_at v.cells (ring_on (length v.cells) v.cursor l.steps);
    }
