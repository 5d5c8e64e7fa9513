use Rattle.std.proofs.Common.{refl, sym, subst, arith}
use Rattle.ds_screen.specs.Marks.{place_of, Marked, IsMarked, marked}
use Rattle.ds_places.specs.Places.{IsRising, IsWithin}
use Rattle.ds_screen.proofs.MarkLaws.{reset_rises, reset_within, reset_marked}
use Rattle.ds_screen.proofs.marks.MarksSurface.reset_modified.Goals as goal

pub invariant_of-self : goal.invariant_of-self
invariant_of-self c = (
  record {
    rising = subst (IsRising place_of) (sym c.change_each.ensures.changed) (reset_rises c.args.which 0 c.self.inside.marks.entries c.self.invariant.0.rising);
    inside = subst (IsWithin place_of c.self.inside.size) (sym c.change_each.ensures.changed) (reset_within c.args.which c.self.inside.size c.self.inside.marks.entries c.self.invariant.0.inside);
    room = c.self.invariant.0.room;
  },
  omega (arith, c.self.invariant.1, c.change_each.ensures.room),
)

pub returns-clause-shown : goal.returns-clause-shown
returns-clause-shown c = λ cells shown.
    let v : Marked = marked c.self.inside.marks.entries c.self.inside.size c.self.inside.limit in
    let w : Marked = marked c.change_each.new.self.entries c.self.inside.size c.self.inside.limit in
    reset_marked c.args.which v w cells (subst (λ u. IsMarked u cells) (sym c.self.view_is) shown) refl
    (subst (IsWithin place_of v.size) (sym c.change_each.ensures.changed) (reset_within c.args.which v.size v.marks c.self.invariant.0.inside)) c.change_each.ensures.changed
