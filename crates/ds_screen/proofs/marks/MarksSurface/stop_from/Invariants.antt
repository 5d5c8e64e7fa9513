use Rattle.std.proofs.Common.{◌≤◌, ◌-◌, List}
use Rattle.ds_codec.specs.declared.cell.Cell.{Cell}
use Rattle.ds_screen.specs.Marks.{IsMarked}
use Rattle.ds_screen.proofs.MarkLaws.{NoneFree}
use Rattle.ds_screen.proofs.marks.MarksSurface.stop_from.Given as goal

abbrev pub invariant-marks : goal.invariant-marks
invariant-marks l =
    record {
      order : l.from ≤ l.at;
      misses : (cells : List Cell) → IsMarked l.self cells → NoneFree cells l.from l.at;
    }

abbrev pub decreases-marks : goal.decreases-marks
decreases-marks l = l.self.size - l.at
