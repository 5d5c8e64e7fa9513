use Rattle.std.proofs.Common.{◌≡◌, Some, None, sym, ap, subst}
use Rattle.ds_places.specs.Places.{at_place}
use Rattle.ds_screen.specs.Fields.{is_attribute}
use Rattle.ds_screen.specs.Marks.{place_of, Marked}
use Rattle.ds_screen.proofs.MarkLaws.{held_there, none_there}
use Rattle.ds_screen.proofs.marks.Marks.is_marked.Goals as goal

pub returns-in-Some : goal.returns-in-Some
returns-in-Some c = λ cells shown.
    let same = ap (λ (u : Marked). u.marks) c.self.view_is in
    let found : at_place place_of c.args.self.now.marks c.args.p ≡ Some c.in-Some._mark = subst (λ l. at_place place_of l c.args.p ≡ Some c.in-Some._mark) same (sym c.in-Some.ensures) in
    sym (ap is_attribute (held_there c.args.self.now cells c.args.p c.in-Some._mark shown found).0)

pub returns-in-None : goal.returns-in-None
returns-in-None c = λ cells shown.
    let same = ap (λ (u : Marked). u.marks) c.self.view_is in
    let none : at_place place_of c.args.self.now.marks c.args.p ≡ None = subst (λ l. at_place place_of l c.args.p ≡ None) same (sym c.in-None.ensures) in
    sym (none_there c.args.self.now cells c.args.p shown none)
