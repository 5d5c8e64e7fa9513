use Rattle.std.proofs.Common.{◌≡◌, ◌++◌, [], ◌<◌, ◌≤◌, length, sym, ◌∙◌, ap, arith}
use Rattle.ds_codec.specs.Geometry.{cells_of}
use Rattle.ds_state.specs.Calls.{cell_pair}
use Rattle.ds_state.proofs.Cells.{bytes_more, bytes_end}
use Rattle.ds_state.proofs.reading.pairs_of.Goals as goal

pub places-init : goal.places-init
places-init g c = c.in_ok-out.ensures.items

pub places-preserved : goal.places-preserved
places-preserved g c =
    let v = c.args.screen.now in
    let n_is : c.cells-cells.result ≡ length v.cells = c.cells-cells.ensures ∙ ap cells_of c.size.ensures.value ∙ sym c.size.ensures.sound.whole in
    let lt : c.places.p < length v.cells = omega (arith, c.places-test.true, n_is) in
    bytes_more cell_pair v.cells c.places.p c.cell.result [] c.places.out.items c.extend_from_slice.new.self.items lt c.cell.ensures c.places.invariant
    (c.in_ok-extend_from_slice.ensures.items ∙ ap (λ z. c.places.out.items ++ z) c.cell_pair.ensures)

pub returns : goal.returns
returns g c =
    let v = c.args.screen.now in
    let n_is : c.cells-cells.result ≡ length v.cells = c.cells-cells.ensures ∙ ap cells_of c.size.ensures.value ∙ sym c.size.ensures.sound.whole in
    bytes_end cell_pair v.cells c.places.p [] c.places.out.items (omega (arith, c.places-test.false, n_is)) c.places.invariant
