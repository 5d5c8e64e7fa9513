use Rattle.std.proofs.Common.{◌≡◌, length, sym, ◌∙◌, ap, arith}
use Rattle.ds_codec.specs.Geometry.{cells_of}
use Rattle.ds_screen.specs.Ring.{ring_on}
use Rattle.ds_inbound.proofs.Spans.{span_short}
use Rattle.demo_screens.proofs.SentLaws.{field_written}
use Rattle.demo_screens.proofs.answer.push_field.Goals as goal

pub push_run-requires-clause-few : goal.push_run-requires-clause-few
push_run-requires-clause-few g c =
    let cells = c.args.screen.now.cells in
    omega (arith, c.governed_count-count.ensures, span_short cells c.args.at c.requires.inside c.requires.there)

pub returns : goal.returns
returns g c =
    let v = c.args.screen.now in
    let n_is : c.cells.result ≡ length v.cells = c.cells.ensures ∙ ap cells_of c.size.ensures.value ∙ sym c.size.ensures.sound.whole in
    field_written v.geometry.mode v.cells c.args.at c.next-place.result c.governed_count-count.result c.args.out.now.items _ _ _ c.requires
    (c.next-place.ensures.on ∙ ap (λ m. ring_on m c.args.at 1) n_is) c.governed_count-count.ensures (rw c.byte.ensures at c.in_ok-push.ensures.items)
    c.in_ok-push_address.ensures c.in_ok-push_run.ensures
