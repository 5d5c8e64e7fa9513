use Rattle.std.proofs.Common.{length, refl, sym, subst, ap, arith}
use Rattle.ds_codec.specs.declared.cell.Cell.{Cell}
use Rattle.ds_screen.specs.Picture.{ruled}
use Rattle.ds_screen.specs.Orders.{single_cell}
use Rattle.ds_screen.specs.Marks.{Marked, IsMarked, marked}
use Rattle.ds_screen.proofs.MarkLaws.{field_marked, char_marked}
use Rattle.ds_screen.proofs.marks.MarksSurface.store.Goals as goal

pub returns-in-Field-clause-shown : goal.returns-in-Field-clause-shown
returns-in-Field-clause-shown c = λ cells shown.
    let v : Marked = marked c.self.inside.marks.entries c.self.inside.size c.self.inside.limit in
    let w : Marked = marked c.store.new.self.entries c.self.inside.size c.self.inside.limit in
    subst (λ (cell : Cell). IsMarked w (ruled (length cells) (single_cell cells c.args.p cell))) (sym c.in-Field.is)
    (field_marked v w cells c.args.p c.in-Field.attribute (subst (λ u. IsMarked u cells) (sym c.self.view_is) shown) refl (c.store.ensures.inside v.size (omega (arith, c.requires, ap (λ (u : Marked). u.size) c.self.view_is)) c.self.invariant.0.inside) c.store.ensures.stored)

pub returns-in-Char-clause-shown : goal.returns-in-Char-clause-shown
returns-in-Char-clause-shown c = λ cells shown.
    let v : Marked = marked c.self.inside.marks.entries c.self.inside.size c.self.inside.limit in
    let w : Marked = marked c.cut.new.self.entries c.self.inside.size c.self.inside.limit in
    subst (λ (cell : Cell). IsMarked w (ruled (length cells) (single_cell cells c.args.p cell))) (sym c.in-Char.is)
    (char_marked v w cells c.args.p c.in-Char.field-0 (subst (λ u. IsMarked u cells) (sym c.self.view_is) shown) refl (c.cut.ensures.inside v.size c.self.invariant.0.inside) c.cut.ensures.cut)
