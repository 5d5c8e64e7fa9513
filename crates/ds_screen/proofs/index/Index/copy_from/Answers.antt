use Rattle.std.proofs.Common.{◌≡◌, false, List, length, get_or, vec_len, sym, ◌∙◌, ap, subst, arith}
use Rattle.ds_codec.specs.declared.cell.Cell.{Cell}
use Rattle.ds_places.specs.Places.{at_place}
use Rattle.ds_screen.specs.Planes.{itself}
use Rattle.ds_screen.specs.Listed.{Listing, listing, AreListed}
use Rattle.ds_screen.proofs.PlaneLaws.{given_back}
use Rattle.ds_screen.proofs.ListedLaws.{copied_listed}
use Rattle.ds_screen.proofs.index.Index.copy_from.Goals as goal

pub returns-clause-copied : goal.returns-clause-copied
returns-clause-copied c = λ cells listed.
    let others : List Cell = c.requires.0 in
    let items = c.self.inside.marks.items in
    let marks = c.copy_marks.new.marks in
    let now = c.copy_from.new.self in
    let many : length marks ≡ length items = c.copy_marks.ensures.whole ∙ ap length c.deref_mut.ensures.value in
    let len : vec_len c.self.inside.marks ≡ length items = sym c.deref_mut.ensures.len ∙ ap length c.deref_mut.ensures.value in
    subst (λ l. AreListed (listing now.entries l now.room) cells) (sym (given_back items marks (vec_len c.self.inside.marks) len many))
    (copied_listed c.args.other.now (listing now.entries marks now.room) cells others listed c.requires.1
    (omega (arith, c.requires.2, c.copy_from.ensures.room, ap (λ (u : Listing). u.room) c.self.view_is))
    (omega (arith, many, c.self.invariant, c.copy_from.ensures.room))
    c.copy_from.ensures.rising
    (λ q. c.copy_from.ensures.copied q ∙ ap (λ l. at_place itself l q) (ap (λ (u : Listing). u.all) c.other.view_is))
    (λ k lt. c.copy_marks.ensures.each k (omega (arith, lt, c.copy_marks.ensures.whole))
    ∙ ap (λ l. get_or l k false) (c.deref.ensures.value ∙ ap (λ (u : Listing). u.marks) c.other.view_is)))
