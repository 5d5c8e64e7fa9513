use Rattle.std.proofs.Common.{◌≡◌, ◌<◌, length, sym, ◌∙◌, ap, arith, inl, inr}
use Rattle.ds_codec.specs.Geometry.{cells_of}
use Rattle.ds_screen.specs.Picture.{Picture}
use Rattle.demo_screens.proofs.RightLaws.{rights_put, rights_waiting, rights_error}
use Rattle.demo_screens.proofs.keys.press_rights.Goals as goal

pub returns-in-Free : goal.returns-in-Free
returns-in-Free g c =
    let v : Picture = c.args.screen.now in
    let n_is : c.cells.result ≡ length v.cells = c.cells.ensures ∙ ap cells_of c.size.ensures.value ∙ sym c.size.ensures.sound.whole in
    let inside : v.cursor < length v.cells = omega (arith, c.size.ensures.sound.whole, c.size.ensures.sound.cursor_inside) in
    rights_put v c.move_cursor.new.self c.args.rights c.from.result c.from-in-Free.result c.from-n.result (sym c.lock.ensures ∙ c.in-Free.is) inside
    (c.from.ensures ∙ c.cursor.ensures.value) c.from-in-Free.ensures (c.from-n.ensures ∙ n_is) c.move_cursor.ensures.changed

pub returns-in-Waiting : goal.returns-in-Waiting
returns-in-Waiting g c =
    elim c.in-Waiting.is [
      | inl waiting ↦ sym (rights_waiting c.args.screen.now c.args.rights (sym c.lock.ensures ∙ waiting))
      | inr error ↦ sym (rights_error c.args.screen.now c.args.rights (sym c.lock.ensures ∙ error))
    ]
