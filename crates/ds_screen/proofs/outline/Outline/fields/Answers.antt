use Rattle.std.proofs.Common.{◌∙◌, sym, subst}
use Rattle.ds_screen.specs.Outline.{Outlined, IsOutlineOf}
use Rattle.ds_screen.proofs.OutlineFieldLaws.{bare_fields}
use Rattle.ds_screen.proofs.outline.Outline.fields.Goals as goal

pub returns : goal.returns
returns c = λ v is.
    let held = subst (λ (u : Outlined). IsOutlineOf u v) (sym c.self.view_is) is in
    c.new.ensures ∙ bare_fields c.self.inside.marks v.cells held.marks
