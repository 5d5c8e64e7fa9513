use Rattle.std.proofs.Common.{◌≡◌, length, refl, ◌∙◌, sym, ap, arith}
use Rattle.ds_screen.specs.Ring.{ring_on}
use Rattle.ds_screen.specs.Fields.{attribute_from}
use Rattle.ds_screen.specs.Marks.{Marked}
use Rattle.ds_screen.proofs.SpanLaws.{span_to, never_none}
use Rattle.ds_screen.proofs.marks.Marks.length_before.Goals as goal

pub returns-in-Some : goal.returns-in-Some
returns-in-Some c = λ cells shown there.
    let size : c.self.inside.size ≡ length cells = ap (λ (u : Marked). u.size) c.self.view_is ∙ sym shown.sized in
    let on : c.next.result ≡ ring_on (length cells) c.args.at 1 = c.next.ensures.on ∙ ap (λ n. ring_on n c.args.at 1) size in
    span_to cells c.args.at c.self.inside.size c.next.result c.in-Some.stop c.distance.result (omega (arith, c.requires.inside, shown.sized)) there size c.next.ensures.on
    (c.in-Some.ensures.nearest cells shown ∙ ap (attribute_from cells) (sym on)) c.distance.ensures.steps

pub returns-in-None : goal.returns-in-None
returns-in-None c = λ cells shown there.
    absurd (never_none cells c.args.at (length cells) (ring_on (length cells) c.args.at 1) (omega (arith, c.requires.inside, shown.sized)) there refl refl
    (c.in-None.ensures.nearest cells shown))
