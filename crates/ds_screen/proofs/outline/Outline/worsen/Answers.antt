use Rattle.std.proofs.Common.{sym, subst}
use Rattle.ds_screen.specs.Outline.{Outlined, outlined, IsOutlineOf}
use Rattle.ds_screen.proofs.WorstLaws.{outlines_worst}
use Rattle.ds_screen.proofs.outline.Outline.worsen.Goals as goal

pub returns : goal.returns
returns c = λ v is.
    let o : Outlined = outlined c.self.inside.geometry c.self.inside.size c.self.inside.marks c.self.inside.cursor c.self.inside.lock in
    let held : IsOutlineOf o v = subst (λ u. IsOutlineOf u v) (sym c.self.view_is) is in
    outlines_worst o v c.tag_inputs.new.marks held (c.tag_inputs.ensures.shown v.cells held.marks)
