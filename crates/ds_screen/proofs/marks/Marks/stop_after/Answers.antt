use Rattle.std.proofs.Common.{◌+◌, length, subst}
use Rattle.ds_places.specs.Nearest.{IsFirstFrom}
use Rattle.ds_screen.specs.Ring.{ring_on}
use Rattle.ds_screen.specs.Marks.{place_of, IsKept}
use Rattle.ds_screen.proofs.MarkLaws.{held_inside}
use Rattle.ds_screen.proofs.OutlineFieldLaws.{stop_later, stop_behind, stop_never}
use Rattle.ds_screen.proofs.marks.Marks.stop_after.Goals as goal

pub returns-in-Some-clause-inside : goal.returns-in-Some-clause-inside
returns-in-Some-clause-inside c =
    let kept : IsKept c.args.self.now = subst IsKept c.self.view_is c.self.invariant.0 in
    held_inside c.args.self.now c.in-Some.mark.at c.in-Some.mark kept (subst (λ m. IsFirstFrom place_of c.args.self.now.marks (c.args.at + 1) m) c.in-Some.is c.requires.later).1

pub returns-in-Some-clause-nearest : goal.returns-in-Some-clause-nearest
returns-in-Some-clause-nearest c = λ cells shown.
    stop_later c.args.self.now cells c.args.at c.in-Some.mark shown
    (subst (λ m. IsFirstFrom place_of c.args.self.now.marks (c.args.at + 1) m) c.in-Some.is c.requires.later)

pub returns-in-Some-next_mark-clause-nearest : goal.returns-in-Some-next_mark-clause-nearest
returns-in-Some-next_mark-clause-nearest c = λ cells shown.
    stop_behind c.args.self.now cells c.args.at c.in-Some-next_mark.mark shown c.requires.inside
    (subst (λ m. IsFirstFrom place_of c.args.self.now.marks (c.args.at + 1) m) c.in_default.is c.requires.later)
    c.in-Some-next_mark.ensures.first

pub returns-in-None-clause-nearest : goal.returns-in-None-clause-nearest
returns-in-None-clause-nearest c = λ cells shown.
    stop_never c.args.self.now cells (ring_on (length cells) c.args.at 1) shown c.in-None.ensures.first
