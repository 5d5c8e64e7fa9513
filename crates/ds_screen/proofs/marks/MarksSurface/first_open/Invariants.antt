use Rattle.std.proofs.Common.{◌≡◌, ◌≤◌, ◌-◌, List, length}
use Rattle.ds_codec.specs.declared.cell.Cell.{Cell}
use Rattle.ds_screen.specs.Ring.{ring_back}
use Rattle.ds_screen.specs.Fields.{ruling_bits}
use Rattle.ds_screen.specs.Marks.{IsMarked}
use Rattle.ds_screen.proofs.MarkLaws.{NoneOpen}
use Rattle.ds_screen.proofs.marks.MarksSurface.first_open.Given as goal

abbrev pub invariant-marks : goal.invariant-marks
invariant-marks l =
    record {
      inside : l.place ≤ l.self.size;
      misses : (cells : List Cell) → IsMarked l.self cells → NoneOpen cells l.place;
      ruled : (cells : List Cell) → IsMarked l.self cells → l.before ≡ ruling_bits cells (ring_back (length cells) l.place 1);
    }

abbrev pub decreases-marks : goal.decreases-marks
decreases-marks l = l.self.size - l.place
