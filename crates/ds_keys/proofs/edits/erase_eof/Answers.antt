use Rattle.std.proofs.Common.{sym, ◌∙◌, arith}
use Rattle.ds_screen.specs.Picture.{Picture}
use Rattle.ds_keys.specs.KeyStep.{marked_cell}
use Rattle.ds_keys.proofs.RunLaws.{length_stored}
use Rattle.ds_keys.proofs.EditLaws.{eof_inhibited, eof_done}
use Rattle.ds_keys.proofs.edits.erase_eof.Goals as goal

pub returns-then-not-is_open : goal.returns-then-not-is_open
returns-then-not-is_open g c =
    eof_inhibited c.args.screen.now c.inhibit.new.screen c.inhibit.result c.cursor-cursor.result c.cursor-cursor.ensures.value (sym c.is_open.ensures ∙ c.if-not-is_open.true) c.inhibit.ensures

pub null_on-requires-clause-inside : goal.null_on-requires-clause-inside
null_on-requires-clause-inside g c =
    let v : Picture = c.args.screen.now in
    omega (arith, c.cursor-cursor.ensures.value, c.position_count-n.ensures.cursor_inside, length_stored v c.mark.new.screen (marked_cell v.cells c.cursor-cursor.result) c.mark.ensures)

pub null_on-requires-clause-few : goal.null_on-requires-clause-few
null_on-requires-clause-few g c =
    let v : Picture = c.args.screen.now in
    omega (arith, c.positions_to_end-count.ensures.within, length_stored v c.mark.new.screen (marked_cell v.cells c.cursor-cursor.result) c.mark.ensures)

pub returns : goal.returns
returns g c =
    let v : Picture = c.args.screen.now in
    eof_done v c.mark.new.screen c.null_on.new.screen c.cursor-cursor.result c.positions_to_end-count.result c.cursor-cursor.ensures.value
    (sym c.is_open.ensures ∙ c.if-not-is_open.false) (omega (arith, c.cursor-cursor.ensures.value, c.position_count-n.ensures.cursor_inside))
    c.positions_to_end-count.ensures.steps c.mark.ensures c.null_on.ensures
