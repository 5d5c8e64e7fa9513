use Rattle.std.proofs.Common.{◌≡◌, ◌<◌, ◌≤◌, length, sym, ◌∙◌, ap, arith}
use Rattle.std.proofs.lemmas.List.{append-nil}
use Rattle.ds_codec.specs.Geometry.{cells_of}
use Rattle.buffer_lines.specs.Record.{cell_bytes}
use Rattle.ds_state.proofs.Items.{held_more, held_all}
use Rattle.ds_state.proofs.Cells.{bytes_more, bytes_end, cell_there}
use Rattle.ds_state.proofs.spelled.push_cells.Goals as goal

pub places-init : goal.places-init
places-init g c = record { written = sym (append-nil c.args.out.now.items); held = tt }

pub places-preserved : goal.places-preserved
places-preserved g c =
    let v = c.args.screen.now in
    let n_is : c.cells-p-end.result ≡ length v.cells = c.cells-p-end.ensures ∙ ap cells_of c.size.ensures.value ∙ sym c.size.ensures.sound.whole in
    let lt : c.places.p < length v.cells = omega (arith, c.places-test.true, n_is) in
    record {
      written = bytes_more cell_bytes v.cells c.places.p c.cell.result c.args.out.now.items c.places.out.items c.push_cell.new.out.items lt c.cell.ensures c.places.invariant.written c.in_ok-push_cell.ensures.written;
      held = held_more v.cells c.places.p c.cell.result lt (cell_there v.cells c.places.p c.cell.result lt c.cell.ensures) c.places.invariant.held c.in_ok-push_cell.ensures.held;
    }

pub returns-clause-written : goal.returns-clause-written
returns-clause-written g c =
    let v = c.args.screen.now in
    let n_is : c.cells-p-end.result ≡ length v.cells = c.cells-p-end.ensures ∙ ap cells_of c.size.ensures.value ∙ sym c.size.ensures.sound.whole in
    bytes_end cell_bytes v.cells c.places.p c.args.out.now.items c.places.out.items (omega (arith, c.places-test.false, n_is)) c.places.invariant.written

pub returns-clause-held : goal.returns-clause-held
returns-clause-held g c =
    let v = c.args.screen.now in
    let n_is : c.cells-p-end.result ≡ length v.cells = c.cells-p-end.ensures ∙ ap cells_of c.size.ensures.value ∙ sym c.size.ensures.sound.whole in
    held_all v.cells c.places.p (omega (arith, c.places-test.false, n_is)) c.places.invariant.held
