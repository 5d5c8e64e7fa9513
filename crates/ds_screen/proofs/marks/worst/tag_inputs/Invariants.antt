use Rattle.std.proofs.Common.{◌≡◌, ◌-◌, List}
use Rattle.ds_codec.specs.declared.cell.Cell.{Cell}
use Rattle.ds_screen.specs.Marks.{IsMarked}
use Rattle.ds_screen.proofs.WorstLaws.{so_far}
use Rattle.ds_screen.proofs.marks.worst.tag_inputs.Given as goal

abbrev pub invariant-inputs : goal.invariant-inputs
invariant-inputs l =
    record {
      shown : (cells : List Cell) → IsMarked l.fn.marks cells → IsMarked l.marks (so_far cells l.from);
      whole : l.marks.size ≡ l.fn.marks.size;
      room : l.marks.room ≡ l.fn.marks.room;
    }

abbrev pub decreases-inputs : goal.decreases-inputs
decreases-inputs l = l.fn.marks.size - l.from
