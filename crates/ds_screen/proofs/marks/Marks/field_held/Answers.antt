use Rattle.std.proofs.Common.{◌≡◌, Some, None, ◌∙◌, sym, ap, subst, arith}
use Rattle.std.proofs.lemmas.Bool.{cond-true, cond-false}
use Rattle.ds_places.specs.Places.{at_place}
use Rattle.ds_screen.specs.Picture.{cell_at}
use Rattle.ds_screen.specs.Fields.{is_attribute, field_at}
use Rattle.ds_screen.specs.Marks.{place_of, Marked, IsKept, IsMarked, bare_cells}
use Rattle.ds_screen.proofs.MarkLaws.{held_there, held_inside, none_there}
use Rattle.ds_screen.proofs.OutlineFieldLaws.{bare_marked}
use Rattle.ds_screen.proofs.marks.Marks.field_held.Goals as goal

pub overflow_add-mark : goal.overflow_add-mark
overflow_add-mark c =
    let same = ap (λ (u : Marked). u.marks) c.self.view_is in
    let size = ap (λ (u : Marked). u.size) c.self.view_is in
    let kept : IsKept c.args.self.now = subst IsKept c.self.view_is c.self.invariant.0 in
    let shown : IsMarked c.args.self.now (bare_cells c.args.self.now) = bare_marked c.args.self.now kept.inside in
    let found : at_place place_of c.args.self.now.marks c.args.p ≡ Some c.in-Some.mark = subst (λ l. at_place place_of l c.args.p ≡ Some c.in-Some.mark) same (sym c.in-Some.ensures) in
    let at = (held_there c.args.self.now (bare_cells c.args.self.now) c.args.p c.in-Some.mark shown found).1 in
    let inside = held_inside c.args.self.now c.args.p c.in-Some.mark kept found in
    omega (arith, at, inside, size)

pub field_of-requires : goal.field_of-requires
field_of-requires c =
    let same = ap (λ (u : Marked). u.marks) c.self.view_is in
    let kept : IsKept c.args.self.now = subst IsKept c.self.view_is c.self.invariant.0 in
    let shown : IsMarked c.args.self.now (bare_cells c.args.self.now) = bare_marked c.args.self.now kept.inside in
    let found : at_place place_of c.args.self.now.marks c.args.p ≡ Some c.in-Some.mark = subst (λ l. at_place place_of l c.args.p ≡ Some c.in-Some.mark) same (sym c.in-Some.ensures) in
    let at = (held_there c.args.self.now (bare_cells c.args.self.now) c.args.p c.in-Some.mark shown found).1 in
    let inside = held_inside c.args.self.now c.args.p c.in-Some.mark kept found in
    record { inside = omega (arith, at, inside); later = c.next_mark.ensures.first }

pub returns-in-Some : goal.returns-in-Some
returns-in-Some c = λ cells shown.
    let same = ap (λ (u : Marked). u.marks) c.self.view_is in
    let found : at_place place_of c.args.self.now.marks c.args.p ≡ Some c.in-Some.mark = subst (λ l. at_place place_of l c.args.p ≡ Some c.in-Some.mark) same (sym c.in-Some.ensures) in
    let there = held_there c.args.self.now cells c.args.p c.in-Some.mark shown found in
    let is = c.field_of.ensures.field cells shown (ap (cell_at cells) there.1 ∙ there.0) in
    ap Some (is ∙ ap (field_at cells) there.1) ∙ sym (cond-true (is_attribute (cell_at cells c.args.p)) (Some (field_at cells c.args.p)) None (ap is_attribute there.0))

pub returns-in-None : goal.returns-in-None
returns-in-None c = λ cells shown.
    let same = ap (λ (u : Marked). u.marks) c.self.view_is in
    let none : at_place place_of c.args.self.now.marks c.args.p ≡ None = subst (λ l. at_place place_of l c.args.p ≡ None) same (sym c.in-None.ensures) in
    sym (cond-false (is_attribute (cell_at cells c.args.p)) (Some (field_at cells c.args.p)) None (none_there c.args.self.now cells c.args.p shown none))
