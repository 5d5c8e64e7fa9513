use Rattle.std.proofs.Common.{◌≡◌, length, sym, ◌∙◌, ap}
use Rattle.ds_codec.specs.Geometry.{cells_of}
use Rattle.ds_screen.proofs.SpanLaws.{span_to, never_none}
use Rattle.demo_screens.proofs.answer.governed_count.Goals as goal

pub returns-in-Some : goal.returns-in-Some
returns-in-Some g c =
    let cells = c.args.screen.now.cells in
    let n_is : c.cells-n.result ≡ length cells = c.cells-n.ensures ∙ ap cells_of c.size.ensures.value ∙ sym c.size.ensures.sound.whole in
    span_to cells c.args.at c.cells-n.result c.next-place.result c.in-Some.stop c.distance.result c.requires.inside c.requires.there n_is c.next-place.ensures.on
    c.in-Some.ensures.nearest c.distance.ensures.steps

pub returns-in-None : goal.returns-in-None
returns-in-None g c =
    let cells = c.args.screen.now.cells in
    let n_is : c.cells-n.result ≡ length cells = c.cells-n.ensures ∙ ap cells_of c.size.ensures.value ∙ sym c.size.ensures.sound.whole in
    absurd (never_none cells c.args.at c.cells-n.result c.next-place.result c.requires.inside c.requires.there n_is c.next-place.ensures.on c.in-None.ensures.nearest)
