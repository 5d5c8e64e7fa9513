use Rattle.std.proofs.Common.{◌-◌, ◌≤◌, length, ap, arith}
use Rattle.ds_places.proofs.ListLaws.{few}
use Rattle.ds_screen.specs.Planes.{itself, IsIndex}
use Rattle.ds_screen.proofs.PlaneLaws.{index_within}
use Rattle.ds_screen.proofs.ListedLaws.{index_of}
use Rattle.ds_screen.proofs.plane_cells.PlaneCells.probed.Goals as goal

pub new-requires : goal.new-requires
new-requires c =
    let xs = c.self.inside.index.all in
    let cells = c.self.inside.planes.cells in
    let listed : IsIndex xs cells = index_of c.self.inside.index cells c.self.invariant.0 in
    let all : length xs ≤ length cells - 0 = few itself 0 (length cells) xs listed.rising (index_within xs cells listed) in
    omega (arith, all, c.len-places.ensures.count, c.len-places.type_inv, ap length c.all.ensures)
