use Rattle.std.proofs.Common.{length, refl, ◌∙◌, sym, ap}
use Rattle.ds_screen.specs.Ring.{ring_on}
use Rattle.ds_screen.specs.Fields.{attribute_from}
use Rattle.ds_screen.proofs.SpanLaws.{span_to, never_none}
use Rattle.ds_screen.proofs.fields.length_to.Goals as goal

pub returns-in-Some : goal.returns-in-Some
returns-in-Some g c =
    let cells = g.C.Cells.content c.args.cells.now in
    let on = c.next.ensures.on ∙ ap (λ n. ring_on n c.args.at 1) c.len-n.ensures in
    span_to cells c.args.at c.len-n.result c.next.result c.in-Some.stop c.distance.result
    c.requires.inside c.requires.there c.len-n.ensures c.next.ensures.on
    (sym c.in-Some.is ∙ c.requires.ahead ∙ ap (attribute_from cells) (sym on)) c.distance.ensures.steps

pub returns-in-None : goal.returns-in-None
returns-in-None g c =
    let cells = g.C.Cells.content c.args.cells.now in
    absurd (never_none cells c.args.at (length cells) (ring_on (length cells) c.args.at 1)
    c.requires.inside c.requires.there refl refl (sym c.in-None.is ∙ c.requires.ahead))
