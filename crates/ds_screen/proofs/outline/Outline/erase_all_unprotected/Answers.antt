use Rattle.std.proofs.Common.{sym, subst}
use Rattle.ds_screen.specs.Outline.{Outlined, outlined, IsOutlineOf}
use Rattle.ds_screen.proofs.OutlineLaws.{outlines_cleared}
use Rattle.ds_screen.proofs.outline.Outline.erase_all_unprotected.Goals as goal

pub returns-clause-shown : goal.returns-clause-shown
returns-clause-shown c = λ v is.
    let o : Outlined = outlined c.self.inside.geometry c.self.inside.size c.self.inside.marks c.self.inside.cursor c.self.inside.lock in
    let held : IsOutlineOf o v = subst (λ u. IsOutlineOf u v) (sym c.self.view_is) is in
    outlines_cleared o v c.clear_on-self-inside.new.surface c.clear_on-self-inside.result held
    (c.clear_on-self-inside.ensures.shown v.cells held.marks) (c.clear_on-self-inside.ensures.first v.cells held.marks)
