use Rattle.std.proofs.Common.{◌≡◌, true, Some, sym, ◌∙◌, ap, arith}
use Rattle.ds_screen.specs.Picture.{Picture}
use Rattle.ds_screen.specs.Fields.{is_open}
use Rattle.ds_keys.proofs.CellLaws.{same_open}
use Rattle.ds_strokes.specs.Room.{before_null, shifted}
use Rattle.ds_strokes.proofs.RoomLaws.{null_few, null_characters, shifted_keeps}
use Rattle.ds_strokes.proofs.room.make_room.Goals as goal

pub shift_on-requires-clause-few : goal.shift_on-requires-clause-few
shift_on-requires-clause-few g c =
    let v : Picture = c.args.screen.now in
    let found : before_null v.cells v.size.cols c.cursor-cursor.result ≡ Some c.in-Some.count = sym c.characters_before_null.ensures.found ∙ c.in-Some.is in
    null_few v.cells v.size.cols c.cursor-cursor.result c.in-Some.count (omega (arith, c.cursor-cursor.ensures.value, c.position_count-count.ensures.cursor_inside)) c.characters_before_null.ensures.row found

pub shift_on-requires-clause-characters : goal.shift_on-requires-clause-characters
shift_on-requires-clause-characters g c =
    let v : Picture = c.args.screen.now in
    let at : c.cursor-cursor.result ≡ v.cursor = c.cursor-cursor.ensures.value in
    let found : before_null v.cells v.size.cols v.cursor ≡ Some c.in-Some.count =
    ap (before_null v.cells v.size.cols) (sym at) ∙ sym c.characters_before_null.ensures.found ∙ c.in-Some.is in
    null_characters v.cells v.size.cols v.cursor c.in-Some.count c.position_count-count.ensures.cursor_inside found

pub returns-in-Some-clause-opens : goal.returns-in-Some-clause-opens
returns-in-Some-clause-opens g c done =
    let v : Picture = c.args.screen.now in
    let at : c.cursor-cursor.result ≡ v.cursor = c.cursor-cursor.ensures.value in
    let inside = c.position_count-count.ensures.cursor_inside in
    let found : before_null v.cells v.size.cols v.cursor ≡ Some c.in-Some.count =
    ap (before_null v.cells v.size.cols) (sym at) ∙ sym c.characters_before_null.ensures.found ∙ c.in-Some.is in
    let opens : is_open v.cells v.cursor ≡ true = ap (is_open v.cells) (sym at) ∙ sym c.is_open.ensures ∙ c.if-not-is_open.false in
    ap (λ (w : Picture). is_open w.cells w.cursor) c.shift_on.ensures
    ∙ same_open v.cells (shifted v c.in-Some.count).cells v.cursor
    (shifted_keeps v c.in-Some.count inside opens (null_characters v.cells v.size.cols v.cursor c.in-Some.count inside found))
    ∙ opens
