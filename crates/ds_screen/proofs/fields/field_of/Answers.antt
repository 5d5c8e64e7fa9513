use Rattle.std.proofs.Common.{◌≡◌, ◌+◌, length, ◌∙◌, ap}
use Rattle.ds_screen.specs.Ring.{ring_on}
use Rattle.ds_screen.specs.Fields.{attribute_from}
use Rattle.ds_screen.proofs.RingLaws.{on_inside}
use Rattle.ds_screen.proofs.fields.field_of.Goals as goal

pub returns-clause-ahead : goal.returns-clause-ahead
returns-clause-ahead g c =
    let cells = g.C.Cells.content c.args.cells.now in
    record {
      nearest = λ lt.
          let here : c.next-place.result ≡ c.args.at + 1 = c.next-place.ensures.on ∙ ap (λ n. ring_on n c.args.at 1) c.len.ensures
          ∙ on_inside (length cells) c.args.at 1 lt in
          c.attr_near-ahead.ensures.nearest ∙ ap (attribute_from cells) here;
      inside = λ lt. c.attr_near-ahead.ensures.inside;
    }
