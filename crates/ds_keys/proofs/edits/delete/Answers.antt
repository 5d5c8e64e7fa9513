use Rattle.std.proofs.Common.{List, sym, ◌∙◌, ap, subst, arith}
use Rattle.ds_codec.specs.declared.cell.Cell.{Cell}
use Rattle.ds_screen.specs.Picture.{Picture}
use Rattle.ds_keys.specs.KeyStep.{marked_cell}
use Rattle.ds_keys.specs.Kept.{AreCharacters}
use Rattle.ds_keys.proofs.RunLaws.{length_stored}
use Rattle.ds_keys.proofs.EditLaws.{delete_inhibited, delete_done, marked_chars}
use Rattle.ds_keys.proofs.edits.delete.Goals as goal

pub returns-then-not-is_open : goal.returns-then-not-is_open
returns-then-not-is_open g c =
    delete_inhibited c.args.screen.now c.inhibit.new.screen c.inhibit.result c.cursor-cursor.result c.cursor-cursor.ensures.value (sym c.is_open.ensures ∙ c.if-not-is_open.true) c.inhibit.ensures

pub shift_back-requires-clause-within : goal.shift_back-requires-clause-within
shift_back-requires-clause-within g c =
    let v : Picture = c.args.screen.now in
    omega (arith, c.end_of_run-end.ensures.within, length_stored v c.mark.new.screen (marked_cell v.cells c.cursor-cursor.result) c.mark.ensures)

pub shift_back-requires-clause-characters : goal.shift_back-requires-clause-characters
shift_back-requires-clause-characters g c =
    let v : Picture = c.args.screen.now in
    let P : List Cell → Type 0 = λ xs. AreCharacters xs c.cursor-cursor.result c.end_of_run-end.result in
    subst P (sym (ap (λ (w : Picture). w.cells) c.mark.ensures))
    (marked_chars v.cells c.cursor-cursor.result c.cursor-cursor.result c.end_of_run-end.result c.end_of_run-end.ensures.within c.end_of_run-end.ensures.characters)

pub returns : goal.returns
returns g c =
    let v : Picture = c.args.screen.now in
    delete_done v c.mark.new.screen c.shift_back.new.screen c.cursor-cursor.result c.end_of_run-end.result c.cursor-cursor.ensures.value
    (sym c.is_open.ensures ∙ c.if-not-is_open.false) (omega (arith, c.cursor-cursor.ensures.value, c.cursor-cursor.ensures.sound.whole, c.cursor-cursor.ensures.sound.cursor_inside))
    c.end_of_run-end.ensures.end c.end_of_run-end.ensures.ahead c.end_of_run-end.ensures.within c.end_of_run-end.ensures.characters c.mark.ensures c.shift_back.ensures
