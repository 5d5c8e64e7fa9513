use Rattle.std.proofs.Common.{◌≡◌, length, ◌∙◌, sym, ap}
use Rattle.ds_screen.specs.Ring.{ring_on}
use Rattle.ds_screen.specs.Fields.{is_attribute}
use Rattle.ds_screen.specs.Marks.{Marked}
use Rattle.ds_screen.proofs.OutlineFieldLaws.{field_made}
use Rattle.ds_screen.proofs.marks.Marks.field_of.Goals as goal

pub returns-clause-field : goal.returns-clause-field
returns-clause-field c = λ cells shown there.
    let size : c.self.inside.size ≡ length cells = ap (λ (u : Marked). u.size) c.self.view_is ∙ sym shown.sized in
    field_made cells c.args.mark c.next.result c.length_before.result there (c.next.ensures.on ∙ ap (λ n. ring_on n c.args.mark.at 1) size)
    (c.length_before.ensures cells shown (ap is_attribute there))
