use Rattle.std.proofs.Common.{◌≡◌, ◌∷◌, [], ◌++◌, ◌<◌, ◌≤◌, length, sym, ◌∙◌, ap, arith}
use Rattle.ds_codec.specs.Address.{written_address}
use Rattle.ds_codec.specs.Geometry.{cells_of}
use Rattle.ds_inbound.specs.Answer.{buffer_of}
use Rattle.ds_inbound.proofs.Sent.{cells_more, buffer_start, buffer_end}
use Rattle.ds_inbound.proofs.write.write_buffer.Goals as goal

pub places-init : goal.places-init
places-init g c =
    let v = c.args.screen.now in
    let aid : c.byte.result ≡ v.aid = c.byte.ensures.value ∙ c.aid.ensures in
    buffer_start v.aid (written_address v.geometry.mode (length v.cells) v.cursor) c.in_ok-out.out.items c.push.new.self.items c.push_address.new.out.items c.in_ok-out.ensures.items
    (c.in_ok-push.ensures.items ∙ ap (λ b. c.in_ok-out.out.items ++ b ∷ []) aid)
    (c.in_ok-push_address.ensures ∙ ap (λ k. c.push.new.self.items ++ written_address v.geometry.mode (length v.cells) k) c.cursor.ensures.value)

pub places-preserved : goal.places-preserved
places-preserved g c =
    let v = c.args.screen.now in
    let n_is : c.cells-n.result ≡ length v.cells = c.cells-n.ensures ∙ ap cells_of c.size.ensures.value ∙ sym c.size.ensures.sound.whole in
    let lt : c.places.p < length v.cells = omega (arith, c.places-test.true, n_is) in
    cells_more v.cells c.places.p c.cell.result (v.aid ∷ written_address v.geometry.mode (length v.cells) v.cursor) c.places.out.items c.push_cell.new.out.items lt c.cell.ensures c.places.invariant c.in_ok-push_cell.ensures

pub returns : goal.returns
unfolding buffer_of
returns g c =
    let v = c.args.screen.now in
    let n_is : c.cells-n.result ≡ length v.cells = c.cells-n.ensures ∙ ap cells_of c.size.ensures.value ∙ sym c.size.ensures.sound.whole in
    let all : length v.cells ≤ c.places.p = omega (arith, c.places-test.false, n_is) in
    buffer_end v.cells c.places.p (v.aid ∷ written_address v.geometry.mode (length v.cells) v.cursor) c.places.out.items all c.places.invariant
